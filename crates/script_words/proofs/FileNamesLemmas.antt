-- Lemmas on names of files.
use Rattle.std.proofs.Common.{◌≡◌, ℕ, ◌<◌, true, List, [], ◌∷◌, ◌++◌, length, take, drop, replicate, IsTrue, arith, refl, ap, sym, rules}
use Rattle.std.specs.List.{list_all}
use Rattle.std.specs.Str.{IsAscii, IsUtf8}
use Rattle.std.proofs.lemmas.Bool.Decides.{nat_tests}
use Rattle.std.proofs.lemmas.Str.Ascii.{IsAscii-nil, IsAscii-cons}
use Rattle.std.proofs.lemmas.Str.{IsUtf8-from_ascii}
use Rattle.std.proofs.Math.Seq.{take-append_seam}
use Rattle.std.proofs.lemmas.List.{drop-replicate}
use Rattle.outside_io.specs.FileName.{is_file_name, is_name_byte}
use Rattle.script_words.specs.FileNames.{HoldsFileName}

-- a file name that was written over the prefix of zeros
pub written_file_name : (word : List ℕ) → IsTrue (is_file_name word) → HoldsFileName (word ++ drop (length word) (replicate 64 0)) (length word)
written_file_name word h =
    let prefix : take (length word) (word ++ drop (length word) (replicate 64 0)) ≡ word = take-append_seam word _ in
    record {
      name = rw prefix h;
      whole = rw prefix refl;
      zeros = rw prefix (ap (λ (ys : List ℕ). word ++ ys) (sym (drop-replicate (length word) 64 0)));
    }

name_byte_below : (byte : ℕ) → is_name_byte byte ≡ true → byte < 128
name_byte_below byte h = grind (arith, nat_tests)

name_bytes_ascii : (bytes : List ℕ) → list_all is_name_byte bytes ≡ true → IsAscii bytes
name_bytes_ascii [] h = IsAscii-nil
name_bytes_ascii (byte ∷ bytes) h =
    IsAscii-cons byte bytes (name_byte_below byte (search rules)) (name_bytes_ascii bytes (search rules))

pub IsUtf8-file_name : (name : List ℕ) → IsTrue (is_file_name name) → IsUtf8 name
IsUtf8-file_name [] h = absurd (search (rules, h))
IsUtf8-file_name (byte ∷ bytes) h = IsUtf8-from_ascii _ (name_bytes_ascii (byte ∷ bytes) (search rules))
