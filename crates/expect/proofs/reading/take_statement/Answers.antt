use Rattle.std.proofs.Common.{◌≡◌, ◌≢◌, ◌∙◌, Err, refl, sym, ap, arith}
use Rattle.agc_text.specs.Fields.{runs, texts}
use Rattle.expect.specs.Lines.{claims_of}
use Rattle.expect.specs.Statements.{Statement}
use Rattle.expect.specs.Texts.{and_lines, claims_after}
use Rattle.expect.proofs.Steps.{at_line, at_no_name, at_no_test, at_test, line_adds, line_refuses}
use Rattle.expect.proofs.reading.take_statement.Goals as goal

pub returns-then-place-eq0-clause-fault : goal.returns-then-place-eq0-clause-fault
returns-then-place-eq0-clause-fault c = λ more.
    let s : Statement = record { line = c.args.place.line; fields = texts (runs c.args.fields.now) } in
    let zero : c.args.place.test ≡ 0 = omega arith in
    rw (
      c.refused-then-place-eq0.ensures,
      c.wrong-then-place-eq0.ensures,
      at_no_test c.args.symbols.now c.args.place.test s more
          c.in-None.ensures zero,
    ) refl

pub returns-then-has_field-clause-taken : goal.returns-then-has_field-clause-taken
returns-then-has_field-clause-taken c = λ more.
    let s : Statement = record { line = c.args.place.line; fields = texts (runs c.args.fields.now) } in
    ap (and_lines c.args.claims.now.items) (at_test c.args.symbols.now c.args.place.test s more (texts (runs c.in-Some.name.now))
    c.in-Some.ensures (sym c.has_field.ensures ∙ c.if-has_field.true))

pub returns-else-has_field-clause-fault : goal.returns-else-has_field-clause-fault
returns-else-has_field-clause-fault c = λ more.
    let s : Statement = record { line = c.args.place.line; fields = texts (runs c.args.fields.now) } in
    rw (
      c.refused.ensures,
      c.wrong.ensures,
      at_no_name c.args.symbols.now c.args.place.test s more (texts (runs c.in-Some.name.now))
          c.in-Some.ensures (sym c.has_field.ensures ∙ c.if-has_field.false),
    ) refl

pub returns-in-Ok-clause-taken : goal.returns-in-Ok-clause-taken
returns-in-Ok-clause-taken c = λ more.
    let s : Statement = record { line = c.args.place.line; fields = texts (runs c.args.fields.now) } in
    let some : c.args.place.test ≢ 0 = omega arith in
    ap (and_lines c.args.claims.now.items) (at_line c.args.symbols.now c.args.place.test s more c.in-None.ensures some)
    ∙ line_adds (claims_of c.args.symbols.now (texts (runs c.args.fields.now))) c.args.place.test c.args.place.line c.args.claims.now.items
    c.add_line.new.claims.items _ c.in-Ok.field-0
    (claims_after c.args.symbols.now c.args.place.test more) refl c.in-Ok.ensures

pub returns-in-Err-clause-fault : goal.returns-in-Err-clause-fault
returns-in-Err-clause-fault c = λ more.
    let s : Statement = record { line = c.args.place.line; fields = texts (runs c.args.fields.now) } in
    let some : c.args.place.test ≢ 0 = omega arith in
    rw (at_line c.args.symbols.now c.args.place.test s more c.in-None.ensures some)
    (line_refuses (claims_of c.args.symbols.now (texts (runs c.args.fields.now))) c.args.place.test c.args.place.line
    c.args.claims.now.items c.add_line.new.claims.items (Err c.in-Err.fault) c.in-Err.fault
    (claims_after c.args.symbols.now c.args.place.test more) refl c.in-Err.ensures)
