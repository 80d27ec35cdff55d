-- Where a file stands in a list of files, and what a new one in its place changes.
use Rattle.std.proofs.Common.{◌≡◌, ℕ, ◌+◌, ◌<◌, ◌≤◌, Bool, true, false, not, cond, List, [], ◌∷◌, ◌++◌, length, map, Option, Some, None, refl, sym, ap, subst, ◌∙◌, arith, String, string_bytes, slice_set, slice_index_or, position, nat_lt}
use Rattle.std.proofs.Math.Numerals.{one-add}
use Rattle.std.proofs.lemmas.Option.{slice_get_past, slice_get-get_or}
use Rattle.std.proofs.lemmas.Slice.Eq.{bytes_eq-Decides}
use borrow.Author.Tests.{ltb-true, ltb-false}
use Rattle.std.specs.Global.{Vec, Global}
use Rattle.std.specs.List.{slice_get, position_or_len}
use Rattle.std.specs.Option.{option_map}
use Rattle.std.specs.Ordering.{nat_cmp, eq_by_cmp}
use Rattle.std.specs.Cmp.Lexicographic.{slice_cmp, texts_ties, nat_list_cmp_total}
use Rattle.std.specs.Str.{bytes_eq}
use Rattle.std.specs.declared.cmp.Ordering.TheVariants.{Equal}
use Rattle.std.specs.FinMap.{find, from_entries, get-from_entries, get-insert, same_map, from_entries_push, nat_cmp-IsAntisymmetric, slice_cmp-IsAntisymmetric}
use Rattle.outside_io.specs.Files.{file, filed}
use Rattle.outside_io.specs.StoredFiles.{StoredFile, bytes_of, entry_of, files_of, has_name}

-- what a scan from the front finds under a name
abbrev found_in : List ℕ → List StoredFile → Option (List ℕ)
found_in name files = find (slice_cmp nat_cmp) name (map entry_of files)

-- whether two names tie
abbrev ties : List ℕ → List ℕ → Bool
ties = eq_by_cmp (slice_cmp nat_cmp)

-- the position of a name, or the number of files
abbrev number : List ℕ → List StoredFile → ℕ
number name files = position_or_len (has_name name) files

-- what is found under q once these bytes are filed under a name
abbrev refound : List ℕ → Vec ℕ → List ℕ → Option (List ℕ) → Option (List ℕ)
refound name bytes q old = cond (ties q name) (Some bytes.items) old

found_first : (b : Bool) (x : StoredFile) (xs : List StoredFile) (n : ℕ) (rest : Option (List ℕ))
    → rest ≡ option_map bytes_of (slice_get xs n)
    → cond b (Some (bytes_of x)) rest
    ≡ option_map bytes_of (slice_get (x ∷ xs) (cond (not b) (1 + n) 0))
found_first true x xs n rest h = refl
found_first false x xs n rest h = rw one-add h

-- a scan finds the file that stands at the place of the name
found-number : (name : List ℕ) (files : List StoredFile)
    → found_in name files ≡ option_map bytes_of (slice_get files (number name files))
found-number name [] = refl
found-number name (x ∷ xs) =
    let key : List ℕ = string_bytes x.0 in
    subst (λ b. cond b (Some (bytes_of x)) (found_in name xs)
    ≡ option_map bytes_of (slice_get (x ∷ xs) (number name (x ∷ xs)))) (texts_ties name key)
    (found_first (bytes_eq name key) x xs (number name xs) (found_in name xs) (found-number name xs))

-- two names tie only if they are equal
tied : (x y : List ℕ) → ties x y ≡ true → x ≡ y
tied x y e = (bytes_eq-Decides x y).0 (texts_ties x y ∙ e)

overwritten : (b : Bool) (new old rest : Option (List ℕ)) → cond b new rest ≡ cond b new (cond b old rest)
overwritten true new old rest = refl
overwritten false new old rest = refl

-- two tests that do not both pass may be made in either order
either_order : (a b : Bool) (x y rest : Option (List ℕ)) → (a ≡ true → b ≡ true → ⊥)
    → cond a x (cond b y rest) ≡ cond b y (cond a x rest)
either_order true true x y rest apart = absurd (apart refl refl)
either_order true false x y rest apart = refl
either_order false b x y rest apart = refl

-- one file with other bytes
abbrev with_bytes : StoredFile → Vec ℕ → StoredFile
with_bytes stored bytes = (stored.0, bytes)

-- the files, with other bytes at a position
abbrev set_bytes : List StoredFile → ℕ → StoredFile → Vec ℕ → List StoredFile
set_bytes files n d bytes = slice_set files n (with_bytes (slice_index_or files n d) bytes)

found_other : (name q : List ℕ) (bytes : Vec ℕ) (d x : StoredFile) (xs : List StoredFile) (n : ℕ)
    → bytes_eq name (string_bytes x.0) ≡ false
    → found_in q (set_bytes xs n d bytes) ≡ refound name bytes q (found_in q xs)
    → found_in q (set_bytes (x ∷ xs) (1 + n) d bytes) ≡ refound name bytes q (found_in q (x ∷ xs))
found_other name q bytes d x xs n other h =
    let key : List ℕ = string_bytes x.0 in
    rw one-add (ap (cond (ties q key) (Some (bytes_of x))) h
    ∙ either_order (ties q key) (ties q name) _ _ _ (λ a b.
    let same : name ≡ key = sym (tied q name b) ∙ tied q key a in
    let yes : bytes_eq name key ≡ true = (bytes_eq-Decides _ _).1 same in cc))

found_here : (name q : List ℕ) (bytes : Vec ℕ) (x : StoredFile) (xs : List StoredFile)
    → bytes_eq name (string_bytes x.0) ≡ true
    → found_in q (with_bytes x bytes ∷ xs) ≡ refound name bytes q (found_in q (x ∷ xs))
found_here name q bytes x xs here =
    let same : name ≡ string_bytes x.0 = (bytes_eq-Decides _ _).0 here in
    rw same (overwritten (ties q (string_bytes x.0)) _ _ _)

-- after a write at the position of a name, a scan finds these bytes under it, and all others as before
found-set_bytes : (name q : List ℕ) (bytes : Vec ℕ) (d : StoredFile) (files : List StoredFile)
    → number name files < length files
    → found_in q (set_bytes files (number name files) d bytes) ≡ refound name bytes q (found_in q files)
found-set_bytes name q bytes d [] h = absurd (omega arith)
found-set_bytes name q bytes d (x ∷ xs) h =
    elim (bytes_eq name (string_bytes x.0)) as (λ b. bytes_eq name (string_bytes x.0) ≡ b
    → cond (not b) (1 + number name xs) 0 < length (x ∷ xs)
    → found_in q (set_bytes (x ∷ xs) (cond (not b) (1 + number name xs) 0) d bytes)
    ≡ refound name bytes q (found_in q (x ∷ xs))) [
      | true ↦ λ e _. found_here name q bytes x xs e
      | false ↦ λ e k. found_other name q bytes d x xs _ e (found-set_bytes name q bytes d xs (omega arith))
    ] refl h

antisymmetric : (x y : List ℕ) → slice_cmp nat_cmp x y ≡ Equal → x ≡ y
antisymmetric = slice_cmp-IsAntisymmetric nat_cmp-IsAntisymmetric

-- what `position` answers, by the position
within : (b : Bool) (n at len : ℕ) → nat_lt at len ≡ b → Some n ≡ cond b (Some at) None
    → (n ≡ at) × (n < len)
within true n at len e found = let same : n ≡ at = cc in (same, rw same (ltb-true _ _ e))
within false n at len e found = cc

past : (b : Bool) (at len : ℕ) → nat_lt at len ≡ b → ◌≡◌ {A = Option ℕ} None (cond b (Some at) None)
    → len ≤ at
past true at len e none = cc
past false at len e none = omega (arith, ltb-false _ _ e)

-- the file of a name, by its place
file-number : (name : List ℕ) (files : List StoredFile)
    → file (files_of files) name ≡ option_map bytes_of (slice_get files (number name files))
file-number name files =
    get-from_entries nat_list_cmp_total (map entry_of files) name ∙ found-number name files

-- the file that `position` finds is the file of the name
pub file_found : (name : List ℕ) (files : List StoredFile) (n : ℕ) (stored : StoredFile)
    → Some n ≡ position (has_name name) files → stored ≡ slice_index_or files n stored
    → Some (bytes_of stored) ≡ file (files_of files) name
file_found name files n stored found is =
    let at = within _ n (number name files) (length files) refl found in
    sym (file-number name files ∙ ap (λ k. option_map bytes_of (slice_get files k)) (sym at.0)
    ∙ ap (option_map bytes_of) (slice_get-get_or files n stored at.1 ∙ ap Some (sym is)))

-- where it finds none the name is absent
pub file_missing : (name : List ℕ) (files : List StoredFile)
    → None ≡ position (has_name name) files → None ≡ file (files_of files) name
file_missing name files none =
    let far = past _ (number name files) (length files) refl none in
    sym (file-number name files ∙ ap (option_map bytes_of) (slice_get_past files _ far))

-- to write where `position` finds the name is to file under it
pub filed_found : (name : List ℕ) (bytes : Vec ℕ) (files : List StoredFile) (n : ℕ) (stored : StoredFile)
    → Some n ≡ position (has_name name) files → stored ≡ slice_index_or files n stored
    → files_of (slice_set files n (with_bytes stored bytes)) ≡ filed (files_of files) name bytes.items
filed_found name bytes files n stored found is =
    let at = within _ n (number name files) (length files) refl found in
    let set : (q : List ℕ) → found_in q (slice_set files n (with_bytes stored bytes)) ≡ refound name bytes q (found_in q files) =
    λ q. subst (λ x. found_in q (slice_set files n (with_bytes x bytes)) ≡ refound name bytes q (found_in q files)) (sym is)
    (rw at.0 (found-set_bytes name q bytes stored files (rw (← at.0) at.1))) in
    same_map nat_list_cmp_total antisymmetric _ _ (λ q.
    get-from_entries nat_list_cmp_total _ q ∙ set q
    ∙ sym (get-insert nat_list_cmp_total (files_of files) name bytes.items q
    ∙ ap (refound name bytes q) (get-from_entries nat_list_cmp_total _ q)))

map-push : (files : List StoredFile) (x : StoredFile)
    → map entry_of (files ++ x ∷ []) ≡ map entry_of files ++ entry_of x ∷ []
map-push [] x = refl
map-push (y ∷ ys) x = ap (λ rest. entry_of y ∷ rest) (map-push ys x)

-- to push where it finds none is to file under that name
pub filed_pushed : (name : List ℕ) (key : String Global) (bytes : Vec ℕ) (files : List StoredFile)
    → None ≡ position (has_name name) files → string_bytes key ≡ name
    → files_of (files ++ (key, bytes) ∷ []) ≡ filed (files_of files) name bytes.items
filed_pushed name key bytes files none is =
    let far = past _ (number name files) (length files) refl none in
    let absent = found-number name files ∙ ap (option_map bytes_of) (slice_get_past files _ far) in
    ap from_entries (map-push files (key, bytes))
    ∙ rw is (from_entries_push nat_list_cmp_total antisymmetric (map entry_of files) name bytes.items absent)
