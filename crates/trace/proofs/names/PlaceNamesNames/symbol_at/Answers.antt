use Rattle.std.proofs.Common.{◌∙◌, get_or, sym, ap, arith, None, Some}
use Rattle.std.proofs.lemmas.List.{get_or_read}
use Rattle.trace.specs.TraceLines.{symbol_at}
use Rattle.trace.proofs.Finding.{named}
use Rattle.trace.proofs.names.PlaceNamesNames.symbol_at.Goals as goal

pub returns-in-Some-clause-name : goal.returns-in-Some-clause-name
returns-in-Some-clause-name c =
    let read = get_or_read c.self.inside.positions.items _ _ (omega (arith, c.place_number.ensures.range, c.self.invariant.len))
    c.index.ensures 0 in
    let here = ap (λ n. get_or c.self.inside.positions.items n 0) (sym c.place_number.ensures.value) ∙ sym read in
    named c.self.inside.symbols _ c.args.place.now _ (Some c.in-Some.symbol) c.self.invariant c.place_number.ensures.place here
    c.in-Some.ensures.value
    ∙ ap (λ symbols. symbol_at symbols c.args.place.now) c.self.view_is

pub returns-in-None-clause-name : goal.returns-in-None-clause-name
returns-in-None-clause-name c =
    let read = get_or_read c.self.inside.positions.items _ _ (omega (arith, c.place_number.ensures.range, c.self.invariant.len))
    c.index.ensures 0 in
    let here = ap (λ n. get_or c.self.inside.positions.items n 0) (sym c.place_number.ensures.value) ∙ sym read in
    named c.self.inside.symbols _ c.args.place.now _ None c.self.invariant c.place_number.ensures.place here c.in-None.ensures.value
    ∙ ap (λ symbols. symbol_at symbols c.args.place.now) c.self.view_is
