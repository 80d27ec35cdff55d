use Rattle.std.proofs.Common.{◌≡◌}
use Rattle.std.specs.Prelude.{All, vec_len}
use Rattle.scene_hub.specs.HubList.{scenes}
use Rattle.scene_hub.specs.Hub.{IsViewerOf, seen, told}
use Rattle.scene_hub.proofs.editor.Editor.viewers.Given as goal

abbrev pub invariant-loop-made : goal.invariant-loop-made
invariant-loop-made g l =
    (l.self.list ≡ l.fn.self.list)
    × (vec_len l.viewers ≡ l._made)
    × All (λ viewer. IsViewerOf viewer l.self × (seen viewer ≡ scenes l.shown.list) × (told viewer ≡ scenes l.shown.list)) l.viewers.items
