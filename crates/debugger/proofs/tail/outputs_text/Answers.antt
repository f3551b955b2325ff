use Rattle.std.proofs.Common.{◌≡◌, ◌∙◌, ◌∷◌, [], ◌++◌, ◌+◌, ◌<◌, ℕ, List, Some, None, length, take, arith, sym, ap, append-nil}
use Rattle.std.specs.List.{slice_get, flat_map}
use Rattle.std.proofs.lemmas.List.{take_more}
use Rattle.std.proofs.lemmas.List.Concat.{flat_map-append}
use Rattle.std.proofs.lemmas.Option.{slice_get-get_or, slice_get_within, get_or_from_slice_get}
use Rattle.cpu.specs.declared.output.Output.{Output}
use Rattle.cpu.specs.ChannelLines.{channel_line, channel_lines}
use Rattle.debugger.proofs.tail.outputs_text.Goals as goal

stands : {X : Type 0} (xs : List X) (i : ℕ) → None ≡ slice_get xs i → i < length xs → ⊥
stands [] i e h = omega arith
stands (x ∷ xs) i e h = let s = slice_get-get_or (x ∷ xs) i x h in (let f : None ≡ Some _ = e ∙ s in cc)

lines-more : (os : List Output) (i : ℕ) (o : Output) → Some o ≡ slice_get os i
    → channel_lines (take (i + 1) os) ≡ channel_lines (take i os) ++ channel_line o
unfolding channel_lines
lines-more os i o e =
    ap (flat_map channel_line) (take_more os i o (slice_get_within os i o (sym e))
    ∙ ap (λ (x : Output). take i os ++ x ∷ []) (get_or_from_slice_get os i o o (sym e)))
    ∙ flat_map-append channel_line (take i os) (o ∷ [])
    ∙ ap (λ (t : List ℕ). flat_map channel_line (take i os) ++ t) (append-nil (channel_line o))

pub loop-index-init : goal.loop-index-init
unfolding channel_lines
loop-index-init c = record { items = c.new-text.ensures; len = omega (arith, ap length c.new-text.ensures) }

pub unreachable-requires : goal.unreachable-requires
unreachable-requires c = stands c.args.ring.now.items c.loop-index.index (rw c.in_default.is at c.get.ensures)
    (omega (arith, c.len-count.ensures.len))

pub loop-index-preserved : goal.loop-index-preserved
loop-index-preserved c = record {
  items = c.push_all.ensures.items ∙ rw (c.as_slice.ensures, c.channel_line.ensures.items, c.loop-index.invariant.items)
      (sym (lines-more c.args.ring.now.items c.loop-index.index c.in-Some.output.now c.in-Some.ensures));
  len = omega (arith, c.push_all.ensures.len, ap length c.as_slice.ensures, c.channel_line.ensures.short, c.loop-index.invariant.len);
}
