use Rattle.std.proofs.Common.{◌≡◌, ◌++◌, ◌∙◌, ℕ, List, Option, OnOk, ap, subst}
use Rattle.std.specs.Prelude.{codes}
use Rattle.included.specs.declared.place.Place.{Place}
use Rattle.included.specs.Located.{fix_in, from_related, line_members, located_words}
use Rattle.included.proofs.Turns.{four_more, on_ok}
use Rattle.included.proofs.reports.push_from_fix.Goals as goal

pub returns-in_ok-push_line_members-in-Some : goal.returns-in_ok-push_line_members-in-Some
returns-in_ok-push_line_members-in-Some c =
    on_ok c.push_from_related.result
    (λ appended. four_more c.args.out.now.items _ _ _ _ (located_words c.args.path.now c.args.joined.now c.in-Some.before.now)
    (codes "\"fix\":{") (line_members c.args.path.now c.args.joined.now c.in-Some.place)
    (from_related c.args.path.now c.args.joined.now c.in-Some.rest.now) c.in_ok-push_located-in-Some.ensures
    c.in_ok-extend_from_slice-in-Some.ensures.items c.in_ok-push_line_members-in-Some.ensures appended
    ∙ ap (λ (o : Option (List ℕ × Place × List ℕ)). c.args.out.now.items ++ fix_in c.args.path.now c.args.joined.now c.args.text.now o)
    c.in-Some.ensures)
    c.push_from_related.ensures

pub returns-in-None : goal.returns-in-None
returns-in-None c =
    subst
    (λ (o : Option (List ℕ × Place × List ℕ)). OnOk c.push_from_related-in-None.result
    (c.push_from_related-in-None.new.out.items ≡ c.args.out.now.items ++ fix_in c.args.path.now c.args.joined.now c.args.text.now o))
    c.in-None.ensures c.push_from_related-in-None.ensures
