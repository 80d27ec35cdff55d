use Rattle.std.proofs.Common.{Result, Ok, Err, refl, ap, ◌∙◌}
use Rattle.std.proofs.lemmas.Result.{err_from_is_err_and}
use Rattle.model_images.specs.Image.{Image}
use Rattle.model_images.specs.Level.{level}
use Rattle.model_sessions.specs.Sessions.{last_scene}
use Rattle.model_states.specs.State.{image_of}
use Rattle.strip_patches.specs.declared.picture.Picture.{Picture}
use Rattle.commit_session.specs.declared.refused.SessionRefused.{SessionRefused}
use Rattle.commit_session.proofs.session.OwnedSession.render.Goals as goal

-- the same error of a patch
abbrev as_error : SessionRefused → Result Picture SessionRefused → Result Image SessionRefused
as_error refused (Ok picture) = Err refused
as_error refused (Err other) = Err other

pub returns-in_err-picture : goal.returns-in_err-picture
returns-in_err-picture g c =
    let refused = c.in_err-picture.field-0.0 in
    let made = c.in_err-picture.ensures in
    let p = err_from_is_err_and c.from_residual.result c.from_residual.ensures.1 in
    rw (p.1, p.2) (record {
      rect = tt;
      format = tt;
      image = λ held of some. tt;
      patch = λ is. tt;
      rendered = tt;
      session = λ held of. tt;
      can = tt;
      stated = made.stated;
      unknown = λ none. ap (as_error refused) (made.unknown none);
      outside = λ there far. ap (as_error refused) (made.outside there far);
      cause = made.cause;
      unchanged = made.unchanged;
      refused_session = made.refused_session;
      states = made.states;
      uncounted = made.uncounted;
      permits = made.permits;
      over = made.over;
      other_names = made.other_names;
      left = made.left;
    })

pub returns : goal.returns
returns g c =
    let made = c.in_ok-picture.ensures in
    record {
      rect = c.into_patch.ensures.rect ∙ made.rect;
      format = c.into_patch.ensures.format ∙ made.format;
      image = λ held of some.
          c.into_patch.ensures.image (level (image_of g.K.Op.OpMeaning.meanings (last_scene held) c.args.node) c.args.level) c.args.rect (made.image held of some);
      patch = λ is. refl;
      rendered = made.rendered;
      session = made.session;
      can = made.can;
      stated = made.stated;
      unknown = λ none. (let other = made.unknown none in absurd (cc));
      outside = λ there far. (let other = made.outside there far in absurd (cc));
      cause = tt;
      unchanged = tt;
      refused_session = λ held of. tt;
      states = made.states;
      uncounted = tt;
      permits = made.permits;
      over = made.over;
      other_names = made.other_names;
      left = made.left;
    }
