use Rattle.std.proofs.Common.{◌≡◌, pos, ◌∷◌, ◌++◌, rules}
use mir.Syntax.{w64}
use mir.Val.{SFits}
use Rattle.std.proofs.lemmas.Int.{to_z-of_z}
use Rattle.std.specs.Fmt.{signed_decimal}
use Rattle.script_fields.proofs.PrintLaws.{rect_put}
use Rattle.script_fields.proofs.field.put_rect.Goals as goal

pub returns-clause-text : goal.returns-clause-text
returns-clause-text c =
    let rect = c.rect.inside in
    let x : c.from.result ≡ rect.x = search rules in
    let y : c.from-2.result ≡ rect.y = search rules in
    let w : c.from-3.result ≡ pos rect.w = search rules in
    let h : c.from-4.result ≡ pos rect.h = search rules in
    let x_fits : SFits w64 c.from.result = search rules in
    let y_fits : SFits w64 c.from-2.result = search rules in
    let w_fits : SFits w64 c.from-3.result = search rules in
    let h_fits : SFits w64 c.from-4.result = search rules in
    let first : c.push_integer.new.text.items ≡ c.args.text.now.items ++ 32 ∷ signed_decimal c.from.result = simp to_z-of_z at c.in_ok-push_integer.ensures.ok in
    let second : c.push_integer-2.new.text.items ≡ c.push_integer.new.text.items ++ 32 ∷ signed_decimal c.from-2.result = simp to_z-of_z at c.in_ok-push_integer-2.ensures.ok in
    let third : c.push_integer-3.new.text.items ≡ c.push_integer-2.new.text.items ++ 32 ∷ signed_decimal c.from-3.result = simp to_z-of_z at c.in_ok-push_integer-3.ensures.ok in
    let fourth : c.push_integer-4.new.text.items ≡ c.push_integer-3.new.text.items ++ 32 ∷ signed_decimal c.from-4.result = simp to_z-of_z at c.in_ok-push_integer-4.ensures.ok in
    rw (fourth, third, second, first, x, y, w, h)
    (rect_put c.args.text.now.items rect.x rect.y rect.w rect.h c.args.rect.now c.rect.view_is c.rect.invariant.column_in_plane c.rect.invariant.row_in_plane)
