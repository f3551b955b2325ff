-- Where `why` ends, nothing that is left was written since the start.
use Rattle.std.proofs.Common.{◌≡◌, ◌≢◌, ◌<◌, ◌≤◌, ◌==◌, ◌||◌, ℕ, zero, suc, Bool, true, false, cond, Option, Some, None, List, [], ◌∷◌}
use Rattle.std.proofs.Common.{◌++◌, length, refl, sym, ap, ◌∙◌, subst, arith, inl, inr, ◌⊎◌}
use Rattle.std.specs.Prelude.{◌-◌, codes, decimal, nat_lt}
use Rattle.std.specs.List.{flat_map}
use Rattle.std.specs.Ordering.{nat_cmp, eq_by_cmp}
use Rattle.std.specs.Cmp.{nat_cmp_total}
use Rattle.std.specs.FinSet as set
use Rattle.std.proofs.lemmas.Bool.Decides.{nat_tests}
use Rattle.words.specs.Numbers.{extend, correct}
use Rattle.words.specs.Numerals.{octal_text}
use Rattle.space.proofs.CellLaws.{get_channel-word, same_get}
use Rattle.space.specs.Cells.{Cells, at, get, get_channel, is_cell, erasable_count, channel_cell, both_banks, accumulator}
use Rattle.space.specs.Cells.{return_address, lower_accumulator_channel, return_address_channel}
use Rattle.symbols.specs.Values.{SymbolTable}
use Rattle.cpu.specs.State.{Scenario, start}
use Rattle.cpu.specs.Run.{run}
use Rattle.cpu.specs.Links.{Link, writes}
use Rattle.cpu.specs.Chains.{cells_among, writes_any, link_at, before_step, chain_end, chain_origins}
use Rattle.cpu.specs.declared.spot.Spot.{Spot}
use Rattle.cpu.specs.declared.spot.Spot.TheVariants.{Cell, InRope}
use Rattle.cpu.proofs.Leaving.{leaves_rest}
use Rattle.replay.specs.LastHit.{IsLastHit}
use Rattle.replay.specs.Whys.{last_writer, and_then, why_steps}
use Rattle.replay.proofs.WhyLemmas.{is_last_hit}
use Rattle.trace.specs.TraceLines.{cell_reading}
use Rattle.commands.specs.declared.extended.LinkLines.{LinkLines}
use Rattle.debugger.specs.Replies.{line}
use Rattle.debugger.specs.WhyEnds.{left_by, EndsAs, IsUnwritten, WhyEnds}
use Rattle.debugger.specs.Whys.{cell_text, end_text, end_from, why_text}

-- ## Steps that were found
few_by : (scenario : Scenario) (k : ℕ) (xs : List Spot) (r : Option ℕ)
    → ((t : ℕ) → length (why_steps scenario k t (before_step scenario t xs)) ≤ k)
    → length (and_then r (λ t. why_steps scenario k t (before_step scenario t xs))) ≤ suc k
few_by scenario k xs None h = omega arith
few_by scenario k xs (Some t) h = omega (arith, h t)

few : (scenario : Scenario) (k p : ℕ) (xs : List Spot) → length (why_steps scenario k p xs) ≤ k
unfolding why_steps
few scenario zero p xs = omega arith
few scenario (suc k) p xs = few_by scenario k xs (last_writer scenario xs p) (λ t. few scenario k t (before_step scenario t xs))

-- nothing that is left is written before the last of them, where fewer are found than may be
abbrev NoneWritten : Scenario → List Spot → ℕ → List ℕ → Type 0
NoneWritten scenario xs p ts = (u : ℕ) → u < chain_end p ts → writes_any (link_at scenario u) (chain_origins scenario xs ts) ≡ false

none_by : (scenario : Scenario) (k p : ℕ) (xs : List Spot) (r : Option ℕ) → IsLastHit (λ t. writes_any (link_at scenario t) xs) 0 p r
    → ((t : ℕ) → length (why_steps scenario k t (before_step scenario t xs)) < k
    → NoneWritten scenario (before_step scenario t xs) t (why_steps scenario k t (before_step scenario t xs)))
    → length (and_then r (λ t. why_steps scenario k t (before_step scenario t xs))) < suc k
    → NoneWritten scenario xs p (and_then r (λ t. why_steps scenario k t (before_step scenario t xs)))
none_by scenario k p xs None last later less = λ u before. last u (omega arith) before
none_by scenario k p xs (Some t) last later less = later t (omega (arith, less))

none : (scenario : Scenario) (k p : ℕ) (xs : List Spot) → length (why_steps scenario k p xs) < k
    → NoneWritten scenario xs p (why_steps scenario k p xs)
unfolding why_steps
none scenario zero p xs less = absurd (omega (arith, less))
none scenario (suc k) p xs less =
    none_by scenario k p xs (last_writer scenario xs p) (is_last_hit (λ t. writes_any (link_at scenario t) xs) p)
    (λ t. none scenario k t (before_step scenario t xs)) less

-- ## What is not written
neither : (a b : Bool) → (a || b) ≡ false → (a ≡ false) × (b ≡ false)
neither true b e = absurd (cc)
neither false b e = (refl, e)

either : (a b : Bool) → (a || b) ≡ true → (a ≡ true) ⊎ (b ≡ true)
either true b e = inl refl
either false b e = inr e

same_cell : (c d : ℕ) → eq_by_cmp nat_cmp c d ≡ true → c ≡ d
same_cell c d e = grind (arith, nat_tests)

misses : (l : Link) (xs : List Spot) (c : ℕ) → writes_any l xs ≡ false → set.contains (cells_among xs) c ≡ true → writes l c ≡ false
misses l [] c n h = absurd (let empty = set.contains-empty nat_cmp c in cc)
misses l (Cell d ∷ xs) c n h =
    let no = neither (writes l d) (writes_any l xs) n in
    elim (either (eq_by_cmp nat_cmp c d) (set.contains (cells_among xs) c)
    (sym (set.contains-insert nat_cmp_total (cells_among xs) d c) ∙ h)) [
      | inl here ↦ subst (λ e. writes l e ≡ false) (sym (same_cell c d here)) no.0
      | inr there ↦ misses l xs c no.1 there
    ]
misses l (InRope bank offset ∷ xs) c n h = misses l xs c n h

held : (scenario : Scenario) (c p : ℕ) → ((u : ℕ) → u < p → writes (link_at scenario u) c ≡ false)
    → at (run scenario p).cells c ≡ at start.cells c
unfolding run
held scenario c zero n = refl
held scenario c (suc p) n = leaves_rest scenario (run scenario p) c (n p (omega arith))
    ∙ held scenario c p (λ u before. n u (omega (arith, before)))

is_apart : (c n : ℕ) → is_cell c ≡ true → is_cell n ≡ false → c ≢ n
is_apart c n h none = λ e. absurd (let wrong : is_cell n ≡ true = subst (λ x. is_cell x ≡ true) e h in cc)

same_channel : (s t : Cells) (c : ℕ) → is_cell c ≡ true → erasable_count ≤ c → at s c ≡ at t c
    → get_channel s (c - erasable_count) ≡ get_channel t (c - erasable_count)
unfolding is_cell
same_channel s t c cell high same =
    let n = c - erasable_count in
    let back : channel_cell n ≡ c = omega (arith, high) in
    let n1 : n ≢ lower_accumulator_channel = (λ e. is_apart c (channel_cell lower_accumulator_channel) cell refl (omega (arith, e, back)))
    in
    let n2 : n ≢ return_address_channel = (λ e. is_apart c (channel_cell return_address_channel) cell refl (omega (arith, e, back))) in
    get_channel-word s n n1 n2 ∙ ap (λ m. extend (at s m)) back ∙ ap (λ w. extend w) same ∙ ap (λ m. extend (at t m)) (sym back)
    ∙ sym (get_channel-word t n n1 n2)

not_below : (c n : ℕ) → nat_lt c n ≡ false → n ≤ c
not_below c n e = grind (arith, nat_tests)

reads : (s t : Cells) (c : ℕ) → is_cell c ≡ true → at s c ≡ at t c → cell_reading s c ≡ cell_reading t c
unfolding is_cell
reads s t c cell same = on (nat_lt c erasable_count) refl
  where
    on : (b : Bool) → nat_lt c erasable_count ≡ b
        → cond b (cond (c == accumulator || c == return_address) (octal_text 6 (get s c)) (octal_text 5 (correct (get s c))))
        (octal_text 5 (correct (get_channel s (c - erasable_count))))
        ≡ cond b (cond (c == accumulator || c == return_address) (octal_text 6 (get t c)) (octal_text 5 (correct (get t c))))
        (octal_text 5 (correct (get_channel t (c - erasable_count))))
    on true e = ap (λ x. cond (c == accumulator || c == return_address) (octal_text 6 x) (octal_text 5 (correct x)))
        (same_get s t c (is_apart c both_banks cell refl) same)
    on false e = ap (λ x. octal_text 5 (correct x)) (same_channel s t c cell (not_below c erasable_count e) same)

unwritten : (scenario : Scenario) (p : ℕ) (xs : List Spot) → ((u : ℕ) → u < p → writes_any (link_at scenario u) xs ≡ false)
    → IsUnwritten scenario p xs
unwritten scenario p xs n =
    let still = (λ (c : ℕ) (among : set.contains (cells_among xs) c ≡ true). held scenario c p
    (λ u before. misses (link_at scenario u) xs c (n u before) among)) in
    record { none = n; held = still; reads = λ c among cell. reads (run scenario p).cells start.cells c cell (still c among) }

-- ## The last line
ends_by : (symbols : SymbolTable) (cut : Bool) (cells : List ℕ) → cells ≢ [] → cut ≡ false
    → end_text symbols cut cells ≡ line (codes "START" ++ flat_map (cell_text symbols start.cells) cells)
ends_by symbols cut [] some e = absurd (some refl)
ends_by symbols true (c ∷ cs) some e = absurd (cc)
ends_by symbols false (c ∷ cs) some e = refl

cut_by : (symbols : SymbolTable) (cut : Bool) (cells : List ℕ) → cells ≢ [] → cut ≡ true
    → end_text symbols cut cells ≡ line (codes "MORE " ++ decimal (length cells))
cut_by symbols cut [] some e = absurd (some refl)
cut_by symbols true (c ∷ cs) some e = refl
cut_by symbols false (c ∷ cs) some e = absurd (cc)

all_by : (symbols : SymbolTable) (cut : Bool) (cells : List ℕ) → cells ≡ [] → end_text symbols cut cells ≡ line (codes "ALL")
all_by symbols cut [] e = refl
all_by symbols cut (c ∷ cs) e = absurd (cc)

not_all : (n k : ℕ) → n < k → (n == k) ≡ false
not_all n k h = grind (arith, nat_tests)

all_told : (n k : ℕ) → n ≡ k → (n == k) ≡ true
all_told n k h = grind (arith, nat_tests)

ends : (symbols : SymbolTable) (scenario : Scenario) (k : ℕ) (xs : List Spot) (ts : List ℕ)
    → EndsAs symbols scenario k xs ts (end_from symbols (length ts == k) (chain_origins scenario xs ts))
ends symbols scenario k xs ts =
    let left = left_by scenario xs ts in
    record {
      all = all_by symbols (length ts == k) left;
      since_start = λ some less. ends_by symbols (length ts == k) left some (not_all (length ts) k less);
      more = λ some as_many. cut_by symbols (length ts == k) left some (all_told (length ts) k as_many);
    }

pub why_ends : (symbols : SymbolTable) (scenario : Scenario) (lines : LinkLines) (k p : ℕ) (xs : List Spot)
    → WhyEnds symbols scenario lines k p xs
unfolding why_text
why_ends symbols scenario lines k p xs =
    let ts = why_steps scenario k p xs in
    record {
      few = few scenario k p xs;
      text = refl;
      ends = ends symbols scenario k xs ts;
      unwritten = λ less. unwritten scenario (chain_end p ts) (chain_origins scenario xs ts) (none scenario k p xs less);
    }
