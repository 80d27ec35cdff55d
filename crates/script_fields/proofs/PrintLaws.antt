-- Printing one field after another.
use Rattle.std.proofs.Common.{◌≡◌, ℕ, ℤ, pos, List, [], ◌∷◌, ◌++◌, refl, sym, ap, ◌∙◌, append_assoc}
use Rattle.std.proofs.lemmas.List.{append-nil}
use Rattle.std.specs.Fmt.{signed_decimal}
use Rattle.plane_rect.specs.Rectangle.{StartsInPlane, Rectangle, placed, plane_coordinate, plane_index}
use Rattle.plane_rect.proofs.Rectangles.{plane_coordinate-plane_index}
use Rattle.script_words.specs.Words.{spaced}
use Rattle.script_fields.specs.Spelling.{field_words}
use Rattle.script_fields.specs.declared.field.Field.TheVariants.{Rect}

-- words after words
pub spaced-append : (prefix back : List (List ℕ)) → spaced (prefix ++ back) ≡ spaced prefix ++ spaced back
spaced-append [] back = refl
spaced-append (word ∷ prefix) back = ap (λ (rest : List ℕ). 32 ∷ word ++ rest) (spaced-append prefix back) ∙ ap (λ (all : List ℕ). 32 ∷ all) (sym (append_assoc word (spaced prefix) (spaced back)))

-- words after words that are after a text
pub spaced_put : (text : List ℕ) (prefix back : List (List ℕ)) → (text ++ spaced prefix) ++ spaced back ≡ text ++ spaced (prefix ++ back)
spaced_put text prefix back =
    append_assoc text (spaced prefix) (spaced back) ∙ ap (λ (words : List ℕ). text ++ words) (sym (spaced-append prefix back))

-- four words after a text
spaced-four : (text a b c d : List ℕ) → (((text ++ 32 ∷ a) ++ 32 ∷ b) ++ 32 ∷ c) ++ 32 ∷ d ≡ text ++ spaced (a ∷ b ∷ c ∷ d ∷ [])
spaced-four text a b c d =
    append_assoc ((text ++ 32 ∷ a) ++ 32 ∷ b) (32 ∷ c) (32 ∷ d)
    ∙ append_assoc (text ++ 32 ∷ a) (32 ∷ b) (32 ∷ c ++ 32 ∷ d)
    ∙ append_assoc text (32 ∷ a) (32 ∷ b ++ (32 ∷ c ++ 32 ∷ d))
    ∙ ap (λ (last : List ℕ). text ++ 32 ∷ (a ++ 32 ∷ (b ++ 32 ∷ (c ++ 32 ∷ last)))) (sym (append-nil d))

-- the numbers of a rectangle after a text
pub rect_put : (text : List ℕ) (x y : ℤ) (w h : ℕ) (rect : Rectangle) → placed x y w h ≡ rect → StartsInPlane x → StartsInPlane y →
    (((text ++ 32 ∷ signed_decimal x) ++ 32 ∷ signed_decimal y) ++ 32 ∷ signed_decimal (pos w)) ++ 32 ∷ signed_decimal (pos h)
    ≡ text ++ spaced (field_words (Rect rect))
rect_put text x y w h rect is column_in_plane row_in_plane =
    spaced-four text (signed_decimal x) (signed_decimal y) (signed_decimal (pos w)) (signed_decimal (pos h))
    ∙ ap (λ (z : ℤ). text ++ spaced (signed_decimal z ∷ signed_decimal y ∷ signed_decimal (pos w) ∷ signed_decimal (pos h) ∷ []))
    (sym (plane_coordinate-plane_index x column_in_plane))
    ∙ ap (λ (z : ℤ). text ++ spaced (signed_decimal (plane_coordinate (plane_index x)) ∷ signed_decimal z ∷ signed_decimal (pos w) ∷ signed_decimal (pos h) ∷ []))
    (sym (plane_coordinate-plane_index y row_in_plane))
    ∙ ap (λ (r : Rectangle). text ++ spaced (field_words (Rect r))) is
