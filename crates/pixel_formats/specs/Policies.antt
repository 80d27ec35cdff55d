-- The words of the policies for positions outside.
use Rattle.std.specs.Prelude.{ℕ, List, [], ◌∷◌, Option, codes, find}
use Rattle.std.specs.Str.{bytes_eq}
use Rattle.pixel_formats.specs.declared.abyss.Abyss.{Abyss}
use Rattle.pixel_formats.specs.declared.abyss.Abyss.TheVariants.{None, Clamp, Loop, Black, White}

-- the word of a policy
abbrev pub policy_word : Abyss → List ℕ
policy_word None = codes "NONE"
policy_word Clamp = codes "CLAMP"
policy_word Loop = codes "LOOP"
policy_word Black = codes "BLACK"
policy_word White = codes "WHITE"

-- all policies
abbrev pub policies : List Abyss
policies = None ∷ Clamp ∷ Loop ∷ Black ∷ White ∷ []

-- the policy that a word names
unfoldable pub policy_named : List ℕ → Option Abyss
policy_named word = find (λ policy. bytes_eq (policy_word policy) word) policies
