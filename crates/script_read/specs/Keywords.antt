-- The first words of commands.
use Rattle.std.specs.Prelude.{ℕ, List, [], ◌∷◌, Option, codes, find}
use Rattle.std.specs.Str.{bytes_eq}
use Rattle.script_read.specs.declared.keyword.Keyword.{Keyword}
use Rattle.script_read.specs.declared.keyword.Keyword.TheVariants.{Buffer, Sub, Dup, Load, Fill, Copy, Node, Drop, Commit, Undo, Redo, Render, Grab, Watch, EndWatch}

-- the word of a command
abbrev pub keyword_word : Keyword → List ℕ
keyword_word Buffer = codes "buffer"
keyword_word Sub = codes "sub"
keyword_word Dup = codes "dup"
keyword_word Load = codes "load"
keyword_word Fill = codes "fill"
keyword_word Copy = codes "copy"
keyword_word Node = codes "node"
keyword_word Drop = codes "drop"
keyword_word Commit = codes "commit"
keyword_word Undo = codes "undo"
keyword_word Redo = codes "redo"
keyword_word Render = codes "render"
keyword_word Grab = codes "grab"
keyword_word Watch = codes "watch"
keyword_word EndWatch = codes "endwatch"

-- all of them
abbrev pub keywords : List Keyword
keywords = Buffer ∷ Sub ∷ Dup ∷ Load ∷ Fill ∷ Copy ∷ Node ∷ Drop ∷ Commit ∷ Undo ∷ Redo ∷ Render ∷ Grab ∷ Watch ∷ EndWatch ∷ []

-- the command of a word
unfoldable pub keyword_of : List ℕ → Option Keyword
keyword_of word = find (λ keyword. bytes_eq (keyword_word keyword) word) keywords
