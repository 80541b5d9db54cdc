-- The code tests in the order of the law.
use Rattle.std.proofs.Common.{not, sym, ap, ◌∙◌, ltb-true, ltb-false}
use Rattle.rules.proofs.CallLaws.{first_clock, first_method, first_field, first_own, first_ticket, first_none}
use Rattle.rules.proofs.fields.checked.Goals as goal

pub returns-then-now-clock : goal.returns-then-now-clock
returns-then-now-clock c = first_clock _ _ _ _ c.if-now-clock.true

pub returns-then-not-is_known : goal.returns-then-not-is_known
returns-then-not-is_known c =
    first_method _ _ _ _ c.if-now-clock.false
    (ltb-false _ 7 (sym c.is_known.ensures ∙ c.if-not-is_known.true))

pub returns-then-not-fields_fit : goal.returns-then-not-fields_fit
returns-then-not-fields_fit c =
    let known = ltb-true c.args.c.method 7 (sym c.is_known.ensures ∙ c.if-not-is_known.false) in
    first_field _ _ _ _ c.if-now-clock.false known (ap not (sym c.fields_fit.ensures ∙ c.if-not-fields_fit.true))

pub returns-then-not-own_fits : goal.returns-then-not-own_fits
returns-then-not-own_fits c =
    let known = ltb-true c.args.c.method 7 (sym c.is_known.ensures ∙ c.if-not-is_known.false) in
    first_own _ _ _ _ c.if-now-clock.false known
    (ap not (sym c.fields_fit.ensures ∙ c.if-not-fields_fit.false))
    (ap not (sym c.own_fits.ensures ∙ c.if-not-own_fits.true))

pub returns-then-c-gt-LAST_TICKET : goal.returns-then-c-gt-LAST_TICKET
returns-then-c-gt-LAST_TICKET c =
    let known = ltb-true c.args.c.method 7 (sym c.is_known.ensures ∙ c.if-not-is_known.false) in
    first_ticket _ _ _ _ c.if-now-clock.false known
    (ap not (sym c.fields_fit.ensures ∙ c.if-not-fields_fit.false))
    (ap not (sym c.own_fits.ensures ∙ c.if-not-own_fits.false))
    c.if-c-gt-LAST_TICKET.true

pub returns : goal.returns
returns c =
    let known = ltb-true c.args.c.method 7 (sym c.is_known.ensures ∙ c.if-not-is_known.false) in
    first_none _ _ _ _ c.if-now-clock.false known
    (ap not (sym c.fields_fit.ensures ∙ c.if-not-fields_fit.false))
    (ap not (sym c.own_fits.ensures ∙ c.if-not-own_fits.false))
    c.if-c-gt-LAST_TICKET.false
