use Rattle.std.proofs.Common.{◌∙◌, ◌++◌, ap, arith, inl, inr, length-append, subst, sym}
use Rattle.bound.specs.declared.finding.Attempt.{Attempt}
use Rattle.bound.specs.declared.site.Site.{Site}
use Rattle.bound.specs.Bounds.{CallsAt, Uses}
use Rattle.bound.specs.Bounds.Has.{First}
use Rattle.bound.specs.Bounds.Uses.{Itself}
use Rattle.bound.specs.Inside.Searches.{IsAttempt, IsChain, IsNewAttempt, is_in, last_of}
use Rattle.bound.proofs.Apart.{all_joined, count_begun, count_known, none_is, parts_apart, parts_begun, parts_known, sites_length, sites_of}
use Rattle.bound.proofs.Apart.{sites_push}
use Rattle.bound.proofs.Chains.{all_used, calls_again, chain_longer, chain_shorter, counted_more, fails_within, first_uses}
use Rattle.bound.proofs.Sound.{bounds_more}
use Rattle.bound.proofs.finding.bound.Goals as goal
use Rattle.bound.proofs.finding.bound.Goals.{in-Most+in_ok-push-in-Most+in_ok-add_loops-in-Most}
use Rattle.bound.proofs.finding.bound.Goals.{in-Calls+else-is+else-is_in+in_ok-push-in-Calls}
use Rattle.bound.proofs.finding.bound.Goals.{then-is-via-then-is, then-is-via-else-is+then-is_in}

pub loop-preserved : goal.loop-preserved
loop-preserved c = elim c.match-branch-2.branch [
  | in-Most+in_ok-push-in-Most+in_ok-add_loops-in-Most w ↦ record {
    bounds =
        rw (w.known-is, w.in_ok-push-in-Most.ensures.items)
        (bounds_more c.args.rope.now c.args.kept.now c.args.limits.now c.loop.known.items _ c.loop.invariant.bounds
        (subst (λ (a : Attempt). IsAttempt c.args.rope.now c.args.kept.now c.args.limits.now c.last_of-site.result a) w.in-Most.is
        c.in_ok-number.ensures.attempt).0);
    loops =
        rw (w.loops-is, w.in_ok-add_loops-in-Most.ensures, w.as_slice-in-Most.ensures.value)
        (counted_more c.args.rope.now c.args.kept.now c.args.routine.now c.last_of-site.result c.loop.begun.items c.loop.loops.items
        w.in-Most.more.items c.loop.invariant.chain
        (c.last_of-site.ensures ∙ ap (last_of c.args.routine.now) c.as_slice-in-loop.ensures.value)
        c.loop.invariant.loops
        (subst (λ (a : Attempt). IsAttempt c.args.rope.now c.args.kept.now c.args.limits.now c.last_of-site.result a) w.in-Most.is
        c.in_ok-number.ensures.attempt).1);
    chain =
        rw w.begun-is
        (chain_shorter c.args.rope.now c.args.kept.now c.args.routine.now w.pop-last.new.self.items w.pop-last.result
        (subst (λ ss. IsChain c.args.rope.now c.args.kept.now c.args.routine.now ss) w.pop-last.ensures.items c.loop.invariant.chain));
    used =
        rw (w.known-is, w.in_ok-push-in-Most.ensures.items)
        (sites_push (λ q. Uses c.args.rope.now c.args.kept.now c.args.routine.now q) c.loop.known.items _ c.loop.invariant.used
        (subst (λ (s : Site). Uses c.args.rope.now c.args.kept.now c.args.routine.now s)
        (sym (c.last_of-site.ensures ∙ ap (last_of c.args.routine.now) c.as_slice-in-loop.ensures.value))
        (first_uses c.args.rope.now c.args.kept.now c.args.routine.now c.loop.begun.items c.loop.invariant.chain)));
    parts =
        rw (w.known-is, w.in_ok-push-in-Most.ensures.items, w.begun-is)
        (parts_known c.loop.known.items c.args.routine.now c.loop.begun.items w.pop-last.new.self.items w.pop-last.result _ _ _
        w.pop-last.ensures.items c.loop.begun.ok.0 w.pop-last.ensures.cases
        (c.last_of-site.ensures ∙ ap (last_of c.args.routine.now) c.as_slice-in-loop.ensures.value)
        (rw c.as_slice.ensures.value at (sym c.number_at.ensures ∙ none_is c.number_at.result c.in_default.not-Some))
        c.loop.invariant.parts);
    count =
        rw (w.known-is, w.in_ok-push-in-Most.ensures.items, w.begun-is)
        (count_known c.loop.counter c.loop.known.items _ c.loop.begun.items w.pop-last.new.self.items w.pop-last.result
        c.loop.invariant.count w.pop-last.ensures.items);
  }
  | in-Calls+else-is+else-is_in+in_ok-push-in-Calls w ↦ record {
    bounds = rw w.known-is c.loop.invariant.bounds;
    loops = rw w.loops-is c.loop.invariant.loops;
    chain =
        rw (w.begun-is, w.in_ok-push-in-Calls.ensures.items)
        (chain_longer c.args.rope.now c.args.kept.now c.args.routine.now c.loop.begun.items w.in-Calls.at w.in-Calls.callee
        c.loop.invariant.chain
        (subst (λ (s : Site). CallsAt c.args.rope.now c.args.kept.now s w.in-Calls.at w.in-Calls.callee)
        (c.last_of-site.ensures ∙ ap (last_of c.args.routine.now) c.as_slice-in-loop.ensures.value)
        (subst (λ (a : Attempt). IsAttempt c.args.rope.now c.args.kept.now c.args.limits.now c.last_of-site.result a) w.in-Calls.is
        c.in_ok-number.ensures.attempt)));
    used = rw w.known-is c.loop.invariant.used;
    parts =
        rw (w.known-is, w.begun-is, w.in_ok-push-in-Calls.ensures.items)
        (parts_begun c.loop.known.items c.loop.begun.items w.in-Calls.callee c.loop.invariant.parts
        (ap (λ ss. is_in ss w.in-Calls.callee) (sym w.as_slice-else-is.ensures.value) ∙ sym w.is_in.ensures ∙ w.if-is_in.false)
        (subst (λ (a : Attempt). IsNewAttempt c.loop.known.items a) w.in-Calls.is
        (rw c.as_slice-in-loop-2.ensures.value at c.in_ok-number.ensures.fresh)));
    count =
        rw (w.known-is, w.begun-is, w.in_ok-push-in-Calls.ensures.items)
        (count_begun c.loop.counter c.loop.known.items c.loop.begun.items w.in-Calls.callee c.loop.invariant.count);
  }
]

pub returns-then-is : goal.returns-then-is
returns-then-is c = record {
  counted = c.loop.invariant.loops;
  answered =
      calls_again c.args.rope.now c.args.kept.now c.args.limits.now c.args.routine.now c.last_of-site.result c.loop.begun.items
      c.in-Calls.at
      c.in-Calls.callee c.loop.invariant.chain (c.last_of-site.ensures ∙ ap (last_of c.args.routine.now) c.as_slice-in-loop.ensures.value)
      (subst (λ (a : Attempt). IsAttempt c.args.rope.now c.args.kept.now c.args.limits.now c.last_of-site.result a) c.in-Calls.is
      c.in_ok-number.ensures.attempt)
      (elim c.then-is.branch [
        | then-is-via-then-is w ↦ inl (sym c.is.ensures ∙ w.if-is.true)
        | then-is-via-else-is+then-is_in w ↦
            inr (ap (λ ss. is_in ss c.in-Calls.callee) (sym w.as_slice-else-is.ensures.value) ∙ sym w.is_in.ensures ∙ w.if-is_in.true)
      ]);
}

pub returns-in-Stops : goal.returns-in-Stops
returns-in-Stops c = record {
  counted = c.loop.invariant.loops;
  answered =
      fails_within c.args.rope.now c.args.kept.now c.args.limits.now c.args.routine.now c.last_of-site.result c.loop.begun.items
      c.in-Stops.at
      c.in-Stops.why c.loop.invariant.chain (c.last_of-site.ensures ∙ ap (last_of c.args.routine.now) c.as_slice-in-loop.ensures.value)
      (subst (λ (a : Attempt). IsAttempt c.args.rope.now c.args.kept.now c.args.limits.now c.last_of-site.result a) c.in-Stops.is
      c.in_ok-number.ensures.attempt);
}

pub returns : goal.returns
returns c = record {
  counted = c.loop.invariant.loops;
  answered = record {
    owner = c.args.routine.now;
    uses = Itself c.args.routine.now;
    has = First c.args.routine.now;
    cause = inr (record {
      sites = sites_of c.loop.known.items ++ c.loop.begun.items;
      each =
          all_joined (λ q. Uses c.args.rope.now c.args.kept.now c.args.routine.now q) (sites_of c.loop.known.items) c.loop.begun.items
          c.loop.invariant.used
          (all_used c.args.rope.now c.args.kept.now c.args.routine.now c.args.routine.now c.loop.begun.items (Itself c.args.routine.now)
          c.loop.invariant.chain);
      apart = parts_apart c.loop.known.items c.loop.begun.items c.loop.invariant.parts;
      many = omega (
        arith,
        c.loop.invariant.count,
        length-append (sites_of c.loop.known.items) c.loop.begun.items,
        sites_length c.loop.known.items,
      );
    });
  };
}
