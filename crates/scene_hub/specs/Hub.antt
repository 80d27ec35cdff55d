-- What contracts see of an editor, a viewer and a receipt.
use Rattle.std.specs.Prelude.{List}
use Rattle.left_right.specs.declared.Absorb as absorbing
use Rattle.scene_hub.specs.declared.numbered.Numbered.{Ghosts}
use Rattle.scene_hub.specs.declared.editor.Editor.{Editor}
use Rattle.scene_hub.specs.declared.receipt.Receipt.{Receipt}
use Rattle.scene_hub.specs.declared.showing.Showing.{Showing}
use Rattle.scene_hub.specs.declared.viewer.Viewer.{Viewer}
use Rattle.scene_hub.specs.HubList.{scenes, IsSameHub}

module _ {S : Type 0} {g : Ghosts S} where
  -- the prefix of its hub's list that a receipt holds
  abbrev pub receipted : Receipt S g → List S
  receipted receipt = scenes receipt.list

  -- what a viewer has seen
  abbrev pub seen : Viewer S g → List S
  seen viewer = scenes viewer.showing.list

  -- the longest list that a viewer was told
  abbrev pub told : Viewer S g → List S
  told viewer = scenes viewer.told.list

  -- the receipt is of the viewer's hub
  abbrev pub IsOfViewer : Receipt S g → Viewer S g → Type 0
  IsOfViewer receipt viewer = IsSameHub receipt.list viewer.showing.list

  -- both are the same viewer's hub
  abbrev pub IsSameViewerHub : Viewer S g → Viewer S g → Type 0
  IsSameViewerHub before after = IsSameHub before.showing.list after.showing.list

  module _ {X : Type 0} {h : absorbing.Ghosts (Showing S) (Showing S) X} where
    -- the hub's list
    abbrev pub published : Editor S X g h → List S
    published editor = scenes editor.list.whole

    -- the receipt is of the editor's hub
    abbrev pub IsOfEditor : Receipt S g → Editor S X g h → Type 0
    IsOfEditor receipt editor = IsSameHub receipt.list editor.list.whole

    -- the viewer is of the editor's hub
    abbrev pub IsViewerOf : Viewer S g → Editor S X g h → Type 0
    IsViewerOf viewer editor = IsSameHub viewer.showing.list editor.list.whole

    abbrev pub IsSameEditorHub : Editor S X g h → Editor S X g h → Type 0
    IsSameEditorHub before after = IsSameHub before.list.whole after.list.whole
