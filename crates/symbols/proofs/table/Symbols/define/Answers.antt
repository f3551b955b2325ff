use Rattle.std.proofs.Common.{◌≤◌, ap, sym, ◌∙◌, ◌∷◌, ◌++◌, [], length, is_some, not}
use Rattle.std.proofs.lemmas.List.Elements.{All-push}
use Rattle.indexmap.proofs.CallerLemmas.{insert_entry-new}
use Rattle.agc_text.specs.Tables.{value_in}
use Rattle.symbols.proofs.Names.{lookup-seen, insert-seen, same_key, seen}
use Rattle.symbols.proofs.table.Symbols.define.Goals as goal

pub returns-in_default-clause-added : goal.returns-in_default-clause-added
returns-in_default-clause-added c =
    let there = rw c.in_default.is at c.in_ok-entry.ensures.found in
    ap not (sym there.0)
    ∙ ap (λ found. not (is_some found))
    (lookup-seen (λ name. name.items) c.self.inside.values.entries c.into_key.result
    ∙ ap (λ name. value_in (seen (λ name. name.items) c.self.inside.values.entries) name) c.into_key.ensures.value
    ∙ ap (λ table. value_in table c.args.name) c.self.view_is)

pub returns-clause-added : goal.returns-clause-added
returns-clause-added c =
    let none = rw c.in-Vacant.is at c.in_ok-entry.ensures.found in
    ap (λ found. not (is_some found))
    (sym none
    ∙ lookup-seen (λ name. name.items) c.self.inside.values.entries c.into_key.result
    ∙ ap (λ name. value_in (seen (λ name. name.items) c.self.inside.values.entries) name) c.into_key.ensures.value
    ∙ ap (λ table. value_in table c.args.name) c.self.view_is)

pub invariant_of-self-2 : goal.invariant_of-self-2
invariant_of-self-2 c =
    let none = rw c.in-Vacant.is at c.in_ok-entry.ensures.found in
    let same = rw c.in-Vacant.is at c.in_ok-entry.ensures.same_map in
    let writes = rw c.in-Vacant.is at (c.in_ok-entry.ensures.update.1 c.insert.result.now) in
    rw (ap (λ m. m.entries) (c.self-3-1.given.1 (sym same)) ∙ writes
    ∙ insert_entry-new (same_key (λ name. name.items)) c.self.inside.values c.into_key.result c.insert.result.now none)
    (All-push (λ e. length e.0.items ≤ 8) c.self.inside.values.entries (c.into_key.result, c.insert.result.now) c.self.invariant
    c.into_key.ensures.fits)

pub returns-clause-ok : goal.returns-clause-ok
returns-clause-ok c =
    let none = rw c.in-Vacant.is at c.in_ok-entry.ensures.found in
    let same = rw c.in-Vacant.is at c.in_ok-entry.ensures.same_map in
    let writes = rw c.in-Vacant.is at (c.in_ok-entry.ensures.update.1 c.insert.result.now) in
    ap (λ m. seen (λ name. name.items) m.entries) (c.self-3-1.given.1 (sym same))
    ∙ ap (seen (λ name. name.items)) writes
    ∙ insert-seen (λ name. name.items) c.self.inside.values.entries c.into_key.result c.insert.result.now
    (sym (lookup-seen (λ name. name.items) c.self.inside.values.entries c.into_key.result) ∙ none)
    ∙ ap (λ table. table ++ (c.into_key.result.items, c.insert.result.now) ∷ []) c.self.view_is
    ∙ ap (λ name. c.args.self.now ++ (name, c.insert.result.now) ∷ []) c.into_key.ensures.value
    ∙ ap (λ value. c.args.self.now ++ (c.args.name, value) ∷ []) c.insert.ensures.value
