use Rattle.std.proofs.Common.{◌≡◌, ◌+◌, ◌++◌, ◌∷◌, [], take, sym, ap, ◌∙◌, arith}
use Rattle.std.specs.List.{flat_map}
use Rattle.std.proofs.lemmas.List.{take_more, append_assoc}
use Rattle.access.specs.Accesses.{cell_in, slots}
use Rattle.access.proofs.Counting.{reads_more}
use Rattle.access.proofs.step_slots.push_reads.Goals as goal

pub loop-spot-preserved : goal.loop-spot-preserved
loop-spot-preserved c =
    let i = c.loop-spot.spot-index in
    let spots = c.args.spots.now in
    let view = c.args.view.now in
    let it = c.spot-item.result in
    let before = flat_map (slots view c.args.number c.args.level 0) (flat_map cell_in (take i spots)) in
    let part = flat_map (slots view c.args.number c.args.level 0) (cell_in it) in
    let one_more : take (i + 1) spots ≡ take i spots ++ it ∷ [] =
    take_more spots i it c.loop-spot-test.true ∙ ap (λ x. take i spots ++ x ∷ []) (sym c.spot-item.is) in
    let parts = reads_more view c.args.number c.args.level (take (i + 1) spots) (take i spots) it one_more in
    record {
      items = c.push_spot.ensures.items ∙ ap (λ xs. xs ++ part) c.loop-spot.invariant.items
          ∙ append_assoc c.args.found.now.items before part ∙ ap (λ xs. c.args.found.now.items ++ xs) (sym parts);
      known = c.push_spot.ensures.known;
      len = (let le = c.push_spot.ensures.len in let was = c.loop-spot.invariant.len in omega (arith, le, was));
    }
