use Rattle.std.proofs.Common.{◌≡◌, ◌∙◌, ◌∷◌, ◌++◌, ◌+◌, ◌<◌, ℕ, List, codes, decimal, length, drop, slice_index_or, arith, sym, ap, refl}
use Rattle.std.proofs.Common.{append_assoc}
use Rattle.std.proofs.lemmas.List.{drop_more}
use Rattle.words.proofs.Digits.{short_decimal}
use Rattle.commands.specs.declared.command.Breakpoint.{Breakpoint}
use Rattle.debugger.specs.Replies.{line}
use Rattle.debugger.specs.ExtendedReplies.{breakpoint_text, breaks_from}
use Rattle.debugger.proofs.extended.breaks_text.Goals as goal

unrolled : (n : ℕ) (b : Breakpoint) (rest : List Breakpoint)
    → breaks_from n (b ∷ rest) ≡ line (codes "BREAK " ++ decimal (n + 1) ++ codes " " ++ breakpoint_text b) ++ breaks_from (n + 1) rest
unrolled n b rest = refl

-- one line more
more : (bs : List Breakpoint) (i n : ℕ) (d b : Breakpoint) (text new whole : List ℕ) → i < length bs
    → text ++ breaks_from n (drop i bs) ≡ whole → new
    ≡ ((((text ++ codes "BREAK ") ++ decimal (n + 1)) ++ codes " ") ++ breakpoint_text b) ++ codes "\n"
    → b ≡ slice_index_or bs i d → new ++ breaks_from (n + 1) (drop (i + 1) bs) ≡ whole
more bs i n d b text new whole below so_far e is =
    let later = breaks_from (n + 1) (drop (i + 1) bs) in
    let shorter : drop i bs ≡ b ∷ drop (i + 1) bs = drop_more bs i d below ∙ ap (λ (x : Breakpoint). x ∷ drop (i + 1) bs) (sym is) in
    let row = codes "BREAK " ++ decimal (n + 1) ++ codes " " ++ breakpoint_text b in
    let one : new ≡ text ++ line row = e ∙ simp append_assoc refl in
    ap (λ (x : List ℕ). x ++ later) one ∙ append_assoc text (line row) later
    ∙ ap (λ (x : List ℕ). text ++ x) (sym (unrolled n b (drop (i + 1) bs)))
    ∙ sym (ap (λ (x : List Breakpoint). text ++ breaks_from n x) shorter) ∙ so_far

pub loop-breakpoint-preserved : goal.loop-breakpoint-preserved
loop-breakpoint-preserved c =
    let so_far = c.loop-breakpoint.invariant in
    record {
      number = omega (arith, so_far.number);
      items = more c.args.breakpoints.now c.loop-breakpoint.breakpoint-index c.loop-breakpoint.number c.breakpoint-item.result
          c.breakpoint-item.result c.loop-breakpoint.text.items _ _ (omega (arith, ap length c.as_slice-breakpoint-items.ensures))
          so_far.items
          (c.push_all-in-loop-breakpoint-2.ensures.items
          ∙ ap (λ (x : List ℕ). x ++ codes "\n") (c.push_breakpoint.ensures.items
          ∙ ap (λ (x : List ℕ). x ++ breakpoint_text c.breakpoint-item.result)
          (c.push_all-in-loop-breakpoint.ensures.items
          ∙ ap (λ (x : List ℕ). x ++ codes " ") (c.push_decimal.ensures.items
          ∙ ap (λ (x : List ℕ). x ++ decimal (c.loop-breakpoint.number + 1)) c.push_all.ensures.items))))
          (c.breakpoint-item.is ∙ ap (λ (xs : List Breakpoint). slice_index_or xs c.loop-breakpoint.breakpoint-index
          c.breakpoint-item.result) c.as_slice-breakpoint-items.ensures);
      len = omega (
        arith,
        so_far.len,
        c.push_all-in-loop-breakpoint-2.ensures.len,
        c.push_breakpoint.ensures.short,
        c.push_all-in-loop-breakpoint.ensures.len,
        c.push_decimal.ensures.len,
        c.push_all.ensures.len,
        short_decimal
            (c.loop-breakpoint.number + 1),
      );
    }
