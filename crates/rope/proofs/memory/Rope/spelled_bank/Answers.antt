use Rattle.std.proofs.Common.{◌≡◌, ◌∙◌, ◌+◌, ◌*◌, ◌/◌, ◌%◌, ◌++◌, refl, List, ℕ, length, ap, sym, arith, rules}
use Rattle.rope.specs.Places.{bank_words}
use Rattle.rope.specs.Image.{spelled, word_of_position, image_part}
use Rattle.rope.proofs.ImageLaws.{image_part-none, image_part-more}
use Rattle.rope.proofs.memory.Rope.spelled_bank.Goals as goal

pub loop-offset-init : goal.loop-offset-init
loop-offset-init c = record {
  items = rw (image_part-none c.args.version c.args.self.now (bank_words * c.args.entry)) (search rules);
  len = search rules;
}

-- the bytes are those of the position's word
spelled_there : (c : goal.After-push_all) → c.spelled.result
    ≡ spelled c.args.version (word_of_position c.args.self.now (bank_words * c.args.entry + c.loop-offset.offset))
unfolding word_of_position
spelled_there c =
    let entry : (bank_words * c.args.entry + c.loop-offset.offset) / bank_words ≡ bank_words * c.args.entry / bank_words = omega arith in
    let offset : (bank_words * c.args.entry + c.loop-offset.offset) % bank_words ≡ c.loop-offset.offset % bank_words = omega arith in
    rw (entry, offset) (c.spelled.ensures ∙ rw (c.word-word.ensures, c.bank_at-bank.ensures, c.offset_at.ensures) refl)

pub loop-offset-preserved : goal.loop-offset-preserved
loop-offset-preserved c =
    let first : ℕ = bank_words * c.args.entry in
    let two : length c.spelled.result ≡ 2 = ap length c.spelled.ensures in
    record {
      items =
          c.push_all.ensures.items ∙ ap (λ (bytes : List ℕ). bytes ++ c.spelled.result) c.loop-offset.invariant.items
          ∙ ap (λ (bytes : List ℕ). image_part c.args.version c.args.self.now first c.loop-offset.offset ++ bytes) (spelled_there c)
          ∙ sym (image_part-more c.args.version c.args.self.now first c.loop-offset.offset);
      len = omega (arith, c.push_all.ensures.len, c.loop-offset.invariant.len, two);
    }
