use Rattle.std.proofs.Common.{◌≡◌, ℕ, List, suc, inl, inr, ◌-◌, length, get_or, set, sym, ◌∙◌, ap, arith, length-set}
use Rattle.std.specs.List.{remove}
use Rattle.std.proofs.lemmas.Bool.{cases_lt}
use Rattle.std.proofs.lemmas.List.{get_or_read, get_or_default}
use Rattle.std.proofs.lemmas.List.Edits.{get_or-remove_below}
use Rattle.replay.proofs.EntryLemmas.{refill_same, set_remove, found_before}
use Rattle.replay.proofs.slot_keeper.take_entry.Goals as goal

pub overflow_sub-place : goal.overflow_sub-place
overflow_sub-place c =
    let kept = c.loop-at.invariant in
    found_before c.args.entries.now.items c.args.step c.loop-at.place c.loop-at.at c.loop-at.slot c.requires kept.low kept.entry kept.later
    c.loop-at-test.true

pub loop-at-smaller : goal.loop-at-smaller
loop-at-smaller c =
    let kept = c.loop-at.invariant in
    let some = found_before c.args.entries.now.items c.args.step c.loop-at.place c.loop-at.at c.loop-at.slot c.requires kept.low kept.entry
    kept.later c.loop-at-test.true in
    omega arith

pub loop-at-preserved : goal.loop-at-preserved
loop-at-preserved c =
    let xs = c.args.entries.now.items in
    let ys = c.loop-at.entries.items in
    let kept = c.loop-at.invariant in
    let place = c.loop-at.place in
    let some = found_before xs c.args.step place c.loop-at.at c.loop-at.slot c.requires kept.low kept.entry kept.later c.loop-at-test.true
    in
    let q = place - 1 in
    let e : suc q ≡ place = omega arith in
    let entry : ℕ × ℕ = (c.loop-at.at, c.loop-at.slot) in
    let read : get_or c.as_slice.result.now q (0, 0) ≡ get_or xs q (0, 0) =
    ap (λ (l : List (ℕ × ℕ)). get_or l q (0, 0)) (c.as_slice.ensures.value ∙ kept.items)
    ∙ get_or-remove_below xs place (0, 0) q (omega arith) kept.low in
    let mark_is : entry ≡ get_or xs (suc q) entry = kept.entry ∙ ap (λ (p : ℕ). get_or xs p entry) (sym e) in
    let moved : set ys q entry ≡ remove xs q =
    ap (λ (l : List (ℕ × ℕ)). set l q entry) (kept.items ∙ ap (λ (p : ℕ). remove xs p) (sym e))
    ∙ ap (λ (m : ℕ × ℕ). set (remove xs (suc q)) q m) mark_is ∙ set_remove xs q entry (omega (arith, kept.low)) in
    let same = c.as_mut_slice.ensures.value in
    let long : length (set c.as_mut_slice.result.now q entry)
    ≡ length ys = length-set c.as_mut_slice.result.now q entry ∙ ap (λ (l : List (ℕ × ℕ)). length l) same in
    record {
      low = omega (arith, kept.low);
      entry = read ∙ get_or_default xs q (0, 0) (get_or c.as_slice.result.now q (0, 0)) (omega (arith, kept.low));
      items = refill_same ys (set c.as_mut_slice.result.now q entry) long ∙ ap (λ (l : List (ℕ × ℕ)). set l q entry) same ∙ moved;
      later = λ k d above below. elim (cases_lt place k) [
        | inl past ↦ kept.later k d (omega arith) below
        | inr here ↦
            let is : k ≡ place = omega arith in
            rw is (λ found. c.loop-at-test.true (ap (λ (m : ℕ × ℕ). m.0) (get_or_read xs place entry kept.low kept.entry d) ∙ found))
      ];
    }
