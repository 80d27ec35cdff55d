use Rattle.std.proofs.Common.{◌≡◌, ◌+◌, ◌^◌, ◌≤◌, true, take}
use Rattle.std.specs.Char.{is_ascii_digit}
use Rattle.std.specs.List.{list_all}
use Rattle.script_words.specs.Numbers.{digits_value}
use Rattle.script_words.proofs.numbers.natural_of.Given as goal

abbrev pub invariant-loop-digit : goal.invariant-loop-digit
invariant-loop-digit l = record {
  value : l.value ≡ digits_value (take l.digit-index l.digits);
  digits : list_all is_ascii_digit (take l.digit-index l.digits) ≡ true;
  bound : l.value + 1 ≤ 10 ^ l.digit-index;
}
