-- `reading::check` meets its contract.
use Rattle.std.proofs.Common.{◌≡◌, sym, ◌∙◌, rules}
use Rattle.refusals.specs.Answer.{refuses, done}
use Rattle.refusals.proofs.SizeLaws.{fit_tells}
use Rattle.sheets.proofs.Frames.{framed_tells}
use Rattle.sheets.proofs.Answers.{read_followed}
use Rattle.sheets.proofs.reading.check.Goals as goal

pub follow-requires : goal.follow-requires
follow-requires c =
    let z = fit_tells _ _ _ _ _ (sym c.check_fit.ensures ∙ c.in_ok-check_fit.was) in
    (z.rows, z.columns, (framed_tells _ (sym c.is_framed.ensures ∙ c.if-not-is_framed.false)).1)

pub returns-in_err-follow : goal.returns-in_err-follow
returns-in_err-follow c =
    let e : c.from_residual-in_err-follow.result ≡ refuses c.in_err-follow.field-0.0 = search rules in
    e
    ∙ read_followed _ _ _ _ _ _ _ _ done (refuses _) (sym c.is_framed.ensures ∙ c.if-not-is_framed.false) c.kind-kind.ensures (c.from-rows.ensures) (c.from-columns.ensures) (sym c.in_ok-check_fit.was ∙ c.check_fit.ensures)
    (c.from.ensures ∙ c.u16_at.ensures) (sym c.in_err-follow.was ∙ c.follow.ensures)

pub returns : goal.returns
returns c =
    read_followed _ _ _ _ _ _ _ _ done done (sym c.is_framed.ensures ∙ c.if-not-is_framed.false) c.kind-kind.ensures (c.from-rows.ensures) (c.from-columns.ensures) (sym c.in_ok-check_fit.was ∙ c.check_fit.ensures)
    (c.from.ensures ∙ c.u16_at.ensures) (sym c.in_ok-follow.was ∙ c.follow.ensures)
