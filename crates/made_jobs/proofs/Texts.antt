-- The text of a job's script, part by part.
use Rattle.std.proofs.Common.{◌≡◌, ℕ, suc, ◌+◌, ◌-◌, ◌<◌, ◌≤◌, List, [], ◌∷◌, ◌++◌, codes, Result, Ok, Err, OnOk, refl, sym, ap, ◌∙◌, append_assoc, arith}
use Rattle.std.specs.Fmt.{digits}
use Rattle.std.proofs.lemmas.List.{append-nil}
use Rattle.script_words.specs.Lines.{text_of}
use Rattle.script_words.specs.Words.{joined, spaced}
use Rattle.model_runs.specs.MadeJob.{draws, edit_lines, fill_by, fills, first_lines, last_lines, render_line, state_after_draws}

pub text_of_append : (a b : List (List ℕ)) → text_of (a ++ b) ≡ text_of a ++ text_of b
text_of_append [] b = refl
text_of_append (line ∷ a) b = ap (λ (rest : List ℕ). line ++ 10 ∷ rest) (text_of_append a b) ∙ sym (append_assoc line (10 ∷ text_of a) (text_of b))

-- the text of so many edits after a state, from the render of a number on
abbrev pub text_of_edits : ℕ → ℕ → ℕ → List ℕ
text_of_edits number count x = text_of (edit_lines number (fills count x))

-- a render's line in three pieces
pub render_put : (before digits : List ℕ) →
    ((before ++ codes "render i 0 0 0 512 384 r") ++ digits) ++ codes ".raw\n" ≡ (before ++ (codes "render i 0 0 0 512 384 " ++ (codes "r" ++ digits ++ codes ".raw"))) ++ 10 ∷ []
render_put before digits =
    let first = codes "render i 0 0 0 512 384 r" in
    append_assoc (before ++ first) digits (codes ".raw\n")
    ∙ append_assoc before first (digits ++ codes ".raw\n")
    ∙ ap (λ (t : List ℕ). before ++ (first ++ t)) (sym (append_assoc digits (codes ".raw") (10 ∷ [])))
    ∙ sym (append_assoc before (first ++ (digits ++ codes ".raw")) (10 ∷ []))

-- words after others
spaced_one : (before word : List ℕ) (words : List (List ℕ)) → (before ++ 32 ∷ word) ++ spaced words ≡ before ++ spaced (word ∷ words)
spaced_one before word words = append_assoc before (32 ∷ word) (spaced words)

-- a fill's line in eight pieces
pub fill_put : (before p q w h r g b : List ℕ) →
    (((((((before ++ codes "fill a") ++ 32 ∷ p) ++ 32 ∷ q) ++ 32 ∷ w) ++ 32 ∷ h) ++ 32 ∷ r) ++ 32 ∷ g) ++ 32 ∷ b
    ≡ before ++ joined (codes "fill" ∷ codes "a" ∷ p ∷ q ∷ w ∷ h ∷ r ∷ g ∷ b ∷ [])
fill_put before p q w h r g b =
    let t0 = before ++ codes "fill a" in
    let t1 = t0 ++ 32 ∷ p in
    let t2 = t1 ++ 32 ∷ q in
    let t3 = t2 ++ 32 ∷ w in
    let t4 = t3 ++ 32 ∷ h in
    let t5 = t4 ++ 32 ∷ r in
    let t6 = t5 ++ 32 ∷ g in
    sym (append-nil (t6 ++ 32 ∷ b))
    ∙ spaced_one t6 b []
    ∙ spaced_one t5 g (b ∷ [])
    ∙ spaced_one t4 r (g ∷ b ∷ [])
    ∙ spaced_one t3 h (r ∷ g ∷ b ∷ [])
    ∙ spaced_one t2 w (h ∷ r ∷ g ∷ b ∷ [])
    ∙ spaced_one t1 q (w ∷ h ∷ r ∷ g ∷ b ∷ [])
    ∙ spaced_one t0 p (q ∷ w ∷ h ∷ r ∷ g ∷ b ∷ [])
    ∙ append_assoc before (codes "fill a") (spaced (p ∷ q ∷ w ∷ h ∷ r ∷ g ∷ b ∷ []))

-- one fill, its commit and its render, as they are appended
edit_first : (before fill render rest : List ℕ) →
    before ++ (fill ++ (10 ∷ (codes "commit" ++ (10 ∷ (render ++ 10 ∷ rest))))) ≡ ((((before ++ fill) ++ codes "\ncommit\n") ++ render) ++ 10 ∷ []) ++ rest
edit_first before fill render rest =
    let after = codes "\ncommit\n" in
    let most = (before ++ fill) ++ after in
    sym (append_assoc (most ++ render) (10 ∷ []) rest
    ∙ append_assoc most render (10 ∷ rest)
    ∙ append_assoc (before ++ fill) after (render ++ 10 ∷ rest)
    ∙ append_assoc before fill (after ++ (render ++ 10 ∷ rest)))

-- what is written before an edit, with its text
abbrev pub with_edit : List ℕ → ℕ → ℕ → List ℕ
with_edit before number x = (((before ++ joined (fill_by (draws 7 x))) ++ codes "\ncommit\n") ++ render_line number) ++ 10 ∷ []

edits_first : (number count x : ℕ) (before : List ℕ) →
    before ++ text_of_edits number (suc count) x ≡ with_edit before number x ++ text_of_edits (suc number) count (state_after_draws 7 x)
unfolding fills
edits_first number count x before =
    edit_first before (joined (fill_by (draws 7 x))) (render_line number) (text_of_edits (suc number) count (state_after_draws 7 x))

pub edits_more : (count n x : ℕ) (before : List ℕ) → n < count →
    before ++ text_of_edits (n + 1) (count - n) x ≡ with_edit before (n + 1) x ++ text_of_edits (n + 1 + 1) (count - (n + 1)) (state_after_draws 7 x)
edits_more count n x before below =
    let left : count - n ≡ suc (count - (n + 1)) = omega (arith, below) in
    let next : suc (n + 1) ≡ n + 1 + 1 = omega arith in
    ap (λ k. before ++ text_of_edits (n + 1) k x) left
    ∙ edits_first (n + 1) (count - (n + 1)) x before
    ∙ ap (λ k. with_edit before (n + 1) x ++ text_of_edits k (count - (n + 1)) (state_after_draws 7 x)) next

pub edits_at_end : (count n x number : ℕ) (all written : List ℕ) → count ≤ n → all ≡ written ++ text_of_edits number (count - n) x → written ≡ all
unfolding fills
edits_at_end count n x number all written past is =
    let none : count - n ≡ 0 = omega (arith, past) in
    sym (is ∙ ap (λ k. written ++ text_of_edits number k x) none ∙ append-nil written)

-- the lines before the edits, the edits and the lines after them
pub text_in_parts : (x : ℕ) → text_of (first_lines ++ edit_lines 1 (fills 24 x) ++ last_lines) ≡ (text_of first_lines ++ text_of_edits 1 24 x) ++ text_of last_lines
text_in_parts x =
    let edits = edit_lines 1 (fills 24 x) in
    text_of_append (first_lines ++ edits) last_lines
    ∙ ap (λ (text : List ℕ). text ++ text_of last_lines) (text_of_append first_lines edits)

lines_before : codes "buffer a RGB8 0 0 512 384\nload a 0 0 512 384 g.raw\nnode s source a\nnode k checker RGB8 -32 -32 576 448 32 0 64\nnode d add s k\nnode b box 3 CLAMP d\nnode e erode 1 NONE b\nnode i invert e\ncommit\n" ++ render_line 0 ++ 10 ∷ [] ≡ text_of first_lines
unfolding digits
lines_before = refl

lines_after : codes "undo\nrender i 0 0 0 512 384 r25.raw\nundo\nrender i 0 0 0 512 384 r26.raw\nredo\nrender i 0 0 0 512 384 r27.raw\n" ≡ text_of last_lines
unfolding digits
lines_after = refl

-- the whole text in four pieces
pub script_put : (x : ℕ) →
    ((codes "buffer a RGB8 0 0 512 384\nload a 0 0 512 384 g.raw\nnode s source a\nnode k checker RGB8 -32 -32 576 448 32 0 64\nnode d add s k\nnode b box 3 CLAMP d\nnode e erode 1 NONE b\nnode i invert e\ncommit\n" ++ render_line 0 ++ 10 ∷ []) ++ text_of_edits 1 24 x)
    ++ codes "undo\nrender i 0 0 0 512 384 r25.raw\nundo\nrender i 0 0 0 512 384 r26.raw\nredo\nrender i 0 0 0 512 384 r27.raw\n"
    ≡ text_of (first_lines ++ edit_lines 1 (fills 24 x) ++ last_lines)
script_put x =
    ap (λ (t : List ℕ). (t ++ text_of_edits 1 24 x) ++ codes "undo\nrender i 0 0 0 512 384 r25.raw\nundo\nrender i 0 0 0 512 384 r26.raw\nredo\nrender i 0 0 0 512 384 r27.raw\n") lines_before
    ∙ ap (λ (t : List ℕ). (text_of first_lines ++ text_of_edits 1 24 x) ++ t) lines_after
    ∙ sym (text_in_parts x)

-- what follows from a fact at `Ok`
pub on_ok : {E : Type 0} (result : Result (Unit {0}) E) (P Q : Type 0) → (P → Q) → OnOk result P → OnOk result Q
on_ok (Ok done) P Q follows holds = follows holds
on_ok (Err refused) P Q follows holds = tt
