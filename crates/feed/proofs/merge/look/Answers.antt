use Rattle.std.proofs.Common.{rules, leb, ◌≡◌, ◌∙◌, ◌<◌, ◌+◌, ◌-◌, true, Option, subst, sym, ap, refl, arith, length, get_or}
use Rattle.std.proofs.lemmas.Bool.Decides.{nat_tests}
use Rattle.feed.specs.Heads.{IsLeastUpTo, head, stands}
use Rattle.std.specs.Prelude.{sum}
use Rattle.feed.specs.declared.entry.Entry.{Entry}
use Rattle.feed.proofs.HeadLaws.{least-first, least-more, least-all}
use Rattle.feed.proofs.CountTests.{same-set, series-at, AreEndedUpTo, and-left, and-right, ended-first, ended-next, ended-all}
use Rattle.feed.proofs.merge.look.Goals as goal
use Rattle.feed.proofs.merge.look.Goals.{then-total-taken, else-total-taken}

pub loop-index-init : goal.loop-index-init
loop-index-init c =
    let number = c.saturating_sub-number.result in
    record {
      same = refl;
      next =
          subst (λ (o : Option Entry). IsLeastUpTo 0 (head c.args.plain.now c.args.sources.now c.args.taken c.args.counts.now) o)
          (sym c.with-looked.ensures.next)
          (least-first c.args.plain.now c.args.sources.now c.args.taken c.args.counts.now number c.plain_head.result (search rules)
          c.plain_head.ensures);
      last = λ h.
          let both = sym c.with-looked.ensures.stand ∙ h in
          let known = and-left c.if-total-taken.known (stands number c.plain_before.result) both in
          let stand = and-right c.if-total-taken.known (stands number c.plain_before.result) both in
          let at : number ≡ c.args.taken - sum c.args.counts.now = search rules in
          subst (λ e. AreEndedUpTo 0 c.args.plain.now c.args.sources.now c.args.taken c.args.counts.now e) (sym c.with-looked.ensures.last)
          (elim c.if-total-taken.branch [
            | then-total-taken w ↦ ended-first c.args.plain.now c.args.sources.now c.args.taken number c.args.counts.now
                c.plain_before.result at c.plain_before.ensures stand
                (let total = c.total-total.ensures in let le = w.if-total-taken.true in omega (arith, total, le))
                (w.none_from-known.ensures (sym w.known-is ∙ known))
            | else-total-taken w ↦ absurd (let le : leb c.total-total.result c.args.taken
                ≡ true = sym w.known-is ∙ known in let gone = w.if-total-taken.false in grind (arith, nat_tests, le, gone))
          ]);
    }

pub loop-index-preserved : goal.loop-index-preserved
loop-index-preserved c =
    let within : c.loop-index.index < length c.loop-index.sources = omega arith in
    let source = get_or c.loop-index.sources c.loop-index.index c.index-sources-index.result in
    let at = series-at c.loop-index.sources c.args.sources.now c.loop-index.index c.index-sources-index.result c.loop-index.invariant.same
    within in
    let looked = c.loop-index.looked in
    record {
      same = same-set c.loop-index.sources c.args.sources.now c.loop-index.index c.index-sources-index.result c.look-last.new.self
          c.loop-index.invariant.same c.look-last.ensures.same;
      next =
          subst (λ (o : Option Entry). IsLeastUpTo (c.loop-index.index + 1)
          (head c.args.plain.now c.args.sources.now c.args.taken c.args.counts.now) o) (sym c.with-looked-in-loop-index.ensures.next)
          (least-more c.args.plain.now c.args.sources.now c.args.taken c.args.counts.now c.loop-index.index source looked.next
          c.look-last.result.1 at c.look-last.ensures.next c.loop-index.invariant.next);
      last =
          ended-next c.loop-index.index c.args.plain.now c.args.sources.now c.args.taken c.args.counts.now looked.last c.look-last.result.0
          c.with-looked-in-loop-index.result.last source looked.stand c.with-looked-in-loop-index.result.stand at
          c.look-last.ensures.last
          c.with-looked-in-loop-index.ensures.stand c.with-looked-in-loop-index.ensures.last c.loop-index.invariant.last;
    }

pub returns-clause-next : goal.returns-clause-next
returns-clause-next c = least-all c.args.plain.now c.args.sources.now c.args.taken c.args.counts.now c.loop-index.index
    c.loop-index.looked.next (let same = ap length c.loop-index.invariant.same in omega (arith, same)) c.loop-index.invariant.next

pub returns-clause-last : goal.returns-clause-last
returns-clause-last c = λ h. ended-all c.loop-index.index c.args.plain.now c.args.sources.now c.args.taken c.args.counts.now
    c.loop-index.looked.last (let same = ap length c.loop-index.invariant.same in omega (arith, same)) (c.loop-index.invariant.last h)
