use Rattle.std.proofs.Common.{◌≡◌, ℕ, List, [], ◌∷◌, Bool, true, false, cond, find, Option, Some, None, option_map, refl, ap, ◌∙◌, rules, tests}
use Rattle.std.specs.Map.{lookup}
use Rattle.std.specs.Str.{bytes_eq}
use Rattle.std.proofs.lemmas.Iterator.{YieldsList-from_slice}
use Rattle.std.proofs.lemmas.Iterator.Search.{find_from_yields_List}
use Rattle.model_images.specs.Image.{Image}
use Rattle.plain_images.specs.Evaluation.{named}
use Rattle.plain_images.specs.declared.evaluation.Buffer.{Buffer}
use Rattle.plain_images.proofs.evaluation.buffer_of.Goals as goal

-- the picture of the first buffer of a name, with the test and without
chosen : (b : Bool) (buffer : Buffer) (rest : Option Buffer) (found : Option Image) → option_map (λ (e : Buffer). e.picture) rest ≡ found
    → option_map (λ (e : Buffer). e.picture) (cond b (Some buffer) rest) ≡ cond b (Some buffer.picture) found
chosen true buffer rest found is = refl
chosen false buffer rest found is = is

find-is : (name : List ℕ) (buffers : List Buffer)
    → option_map (λ (e : Buffer). e.picture) (find (λ (e : Buffer). bytes_eq name e.name) buffers) ≡ lookup (bytes_eq name) (named buffers)
find-is name [] = refl
find-is name (buffer ∷ buffers) = chosen (bytes_eq name buffer.name) buffer _ _ (find-is name buffers)

twice : {A B C : Type 0} (f : A → B) (g : B → C) (o : Option A) → option_map (λ a. g (f a)) o ≡ option_map g (option_map f o)
twice f g None = refl
twice f g (Some a) = refl

pub returns : goal.returns
returns c =
    let found = find_from_yields_List (λ (e : Buffer). bytes_eq c.args.name e.name) _ _ c.find.result c.find.ensures.ran (YieldsList-from_slice c.args.buffers.now cc) (λ x b q k. search (rules, tests)) in
    twice (λ x. x.now) (λ (e : Buffer). e.picture) c.find.result
    ∙ ap (option_map (λ (e : Buffer). e.picture)) found
    ∙ find-is c.args.name c.args.buffers.now
