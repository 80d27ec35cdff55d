use Rattle.std.proofs.Common.{◌≡◌, Ok, rules}
use Rattle.plane_rect.specs.Rectangle.{new_rectangle}
use Rattle.plane_rect.proofs.Rectangles.{new_rectangle-positions, refuses_place, refuses_size}
use Rattle.plane_rect.proofs.rect.Rect.new.Goals as goal

-- what is returned after the last test
value : (c : goal.After-from_fields) → Ok c.from_fields.result ≡ new_rectangle c.args.x c.args.y c.args.w c.args.h
value c = search rules

pub returns-then-not-ends_inside-clause-position : goal.returns-then-not-ends_inside-clause-position
returns-then-not-ends_inside-clause-position c = refuses_place c.args.x c.args.y c.args.w c.args.h _ (search rules)

pub returns-then-not-ends_inside-clause-size : goal.returns-then-not-ends_inside-clause-size
returns-then-not-ends_inside-clause-size c = refuses_size c.args.x c.args.y c.args.w c.args.h _ (search rules)

pub returns-clause-position : goal.returns-clause-position
returns-clause-position c = refuses_place c.args.x c.args.y c.args.w c.args.h _ (value c)

pub returns-clause-size : goal.returns-clause-size
returns-clause-size c = refuses_size c.args.x c.args.y c.args.w c.args.h _ (value c)

pub returns-clause-positions : goal.returns-clause-positions
returns-clause-positions c = new_rectangle-positions c.args.x c.args.y c.args.w c.args.h c.from_fields.result (value c)
