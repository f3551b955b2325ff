-- The lines of `why` since a step, one after another.
use Rattle.std.proofs.Common.{◌≡◌, true, ℕ, zero, suc, ◌+◌, ◌-◌, ◌*◌, ◌<◌, ◌≤◌, List, [], ◌++◌, Option, Some, None, Result}
use Rattle.std.proofs.Common.{refl, sym, ap, ◌∙◌, append_assoc, append-nil, arith}
use Rattle.words.specs.Devices.{Writes, WritesBeginning}
use Rattle.words.specs.declared.device.WriteFailed.{WriteFailed}
use Rattle.words.proofs.Texts.{Writes-after, append-then, beginning-after, beginning-longer}
use Rattle.symbols.specs.Values.{SymbolTable}
use Rattle.cpu.specs.State.{Scenario}
use Rattle.cpu.specs.Chains.{cells_among, before_step}
use Rattle.cpu.specs.declared.spot.Spot.{Spot}
use Rattle.replay.specs.Whys.{last_writer}
use Rattle.commands.specs.declared.extended.IndexLines.{IndexLines}
use Rattle.commands.specs.declared.extended.IndexLines.TheVariants.{Omitted, Told}
use Rattle.commands.specs.declared.extended.LinkLines.{LinkLines}
use Rattle.debugger.specs.Conversation.{index_effort, link_effort}
use Rattle.origins.specs.Following.{CellSet, cells_of}
use Rattle.debugger.specs.Whys.{end_from}
use Rattle.debugger.specs.WhysSince.{since_step, since_text, lines_since, end_since, found_or}
use Rattle.debugger.specs.ToldSince.{ToldSince}

-- the text link by link
module _ (symbols : SymbolTable) (scenario : Scenario) (lines : LinkLines) (since p : ℕ) (xs : List Spot) where
  pub since_zero : since_text symbols scenario lines since 0 p xs ≡ end_from symbols true xs
  unfolding since_text
  since_zero = refl

  pub since_none : (k : ℕ) → since_step since (last_writer scenario xs p) ≡ None
      → since_text symbols scenario lines since (suc k) p xs ≡ end_since symbols since (cells_of (cells_among xs))
  unfolding since_text
  since_none k none =
      ap (λ (o : Option ℕ). found_or o (end_since symbols since (cells_of (cells_among xs)))
      (λ t. lines_since symbols scenario lines since t xs ++ since_text symbols scenario lines since k t (before_step scenario t xs))) none

  pub since_some : (k t : ℕ) → since_step since (last_writer scenario xs p) ≡ Some t
      → since_text symbols scenario lines since (suc k) p xs
      ≡ lines_since symbols scenario lines since t xs ++ since_text symbols scenario lines since k t (before_step scenario t xs)
  unfolding since_text
  since_some k t some =
      ap (λ (o : Option ℕ). found_or o (end_since symbols since (cells_of (cells_among xs)))
      (λ u. lines_since symbols scenario lines since u xs ++ since_text symbols scenario lines since k u (before_step scenario u xs))) some

-- before the first line
pub since_told_none : (symbols : SymbolTable) (scenario : Scenario) (lines : LinkLines) (since : ℕ) (k p : ℕ) (xs : List Spot)
    (cells : CellSet) (old : List ℕ) → cells ≡ cells_among xs
    → ToldSince symbols scenario lines since (since_text symbols scenario lines since k p xs) old old k p cells
since_told_none symbols scenario lines since k p xs cells old is = record
    { spots = xs; pending_is = is; text = []; goes_on = refl; written = sym (append-nil old) }

module _ (symbols : SymbolTable) (scenario : Scenario) (lines : LinkLines) (since : ℕ) (whole old now : List ℕ) (left before : ℕ)
    (cells : CellSet) (t : ToldSince symbols scenario lines since whole old now left before cells) where
  -- the last line
  ends : (new rest : List ℕ) (result : Result (Unit {0}) WriteFailed) → since_text symbols scenario lines since left before t.spots ≡ rest
      → Writes now new rest result → Writes old new whole result
  ends new rest result is w = rw (t.goes_on, is) (Writes-after old now new t.text rest result t.written w)

  pub told_all : (new rest : List ℕ) (result : Result (Unit {0}) WriteFailed) → left ≡ 0
      → ((xs : List Spot) → cells ≡ cells_among xs → rest ≡ end_from symbols true xs) → Writes now new rest result
      → Writes old new whole result
  told_all new rest result none is w =
      ends new rest result (ap (λ n. since_text symbols scenario lines since n before t.spots) none
      ∙ since_zero symbols scenario lines since before t.spots ∙ sym (is t.spots t.pending_is)) w

  pub told_short : (new rest : List ℕ) (result : Result (Unit {0}) WriteFailed) → 0 < left
      → ((xs : List Spot) → cells ≡ cells_among xs → None ≡ since_step since (last_writer scenario xs before))
      → ((xs : List Spot) → cells ≡ cells_among xs → rest ≡ end_since symbols since (cells_of (cells_among xs)))
      → Writes now new rest result → Writes old new whole result
  told_short new rest result some none is w =
      let e : left ≡ suc (left - 1) = omega (arith, some) in
      ends new rest result (ap (λ n. since_text symbols scenario lines since n before t.spots) e
      ∙ since_none symbols scenario lines since before t.spots (left - 1) (sym (none t.spots t.pending_is))
      ∙ sym (is t.spots t.pending_is)) w

  -- one line more
  more : (step : ℕ) → 0 < left → ((xs : List Spot) → cells ≡ cells_among xs → Some step ≡ since_step since (last_writer scenario xs before))
      → whole ≡ t.text ++ (lines_since symbols scenario lines since step t.spots
      ++ since_text symbols scenario lines since (left - 1) step (before_step scenario step t.spots))
  more step some found =
      let e : left ≡ suc (left - 1) = omega (arith, some) in
      t.goes_on ∙ ap (λ (y : List ℕ). t.text ++ y)
      (ap (λ n. since_text symbols scenario lines since n before t.spots) e
      ∙ since_some symbols scenario lines since before t.spots (left - 1) step (sym (found t.spots t.pending_is)))

  pub told_more : (new line : List ℕ) (step : ℕ) (cells' : CellSet) → 0 < left
      → ((xs : List Spot) → cells ≡ cells_among xs → Some step ≡ since_step since (last_writer scenario xs before))
      → ((xs : List Spot) → cells ≡ cells_among xs → line ≡ lines_since symbols scenario lines since step xs)
      → ((xs : List Spot) → cells ≡ cells_among xs → cells' ≡ cells_among (before_step scenario step xs))
      → new ≡ now ++ line → ToldSince symbols scenario lines since whole old new (left - 1) step cells'
  told_more new line step cells' some found is follows w = record {
    spots = before_step scenario step t.spots;
    pending_is = follows t.spots t.pending_is;
    text = t.text ++ line;
    goes_on = more step some found ∙ ap (λ (l : List ℕ). t.text
        ++ (l ++ since_text symbols scenario lines since (left - 1) step (before_step scenario step t.spots)))
        (sym (is t.spots t.pending_is)) ∙ sym (append_assoc t.text line _);
    written = append-then old now new t.text line t.written w;
  }

  pub told_part : (new line : List ℕ) (step : ℕ) → 0 < left
      → ((xs : List Spot) → cells ≡ cells_among xs → Some step ≡ since_step since (last_writer scenario xs before))
      → ((xs : List Spot) → cells ≡ cells_among xs → line ≡ lines_since symbols scenario lines since step xs) → WritesBeginning now new line
      → WritesBeginning old new whole
  told_part new line step some found is w =
      let rest = since_text symbols scenario lines since (left - 1) step (before_step scenario step t.spots) in
      let e : whole ≡ t.text ++ (line ++ rest) = more step some found
      ∙ ap (λ (l : List ℕ). t.text ++ (l ++ rest)) (sym (is t.spots t.pending_is)) in
      rw e (beginning-after old now new t.text (line ++ rest) t.written (beginning-longer now new line rest w))

-- what a link costs: a search, two looks, a search for what entered an interrupt, and for an INDEX a search and a look, each from the
-- first step on
cost_by : (index : IndexLines) (first at sought shown m left links : ℕ) → 0 < left
    → at + index_effort index * left * m ≤ first + index_effort index * links * m → sought ≤ at + 2 * m
    → shown ≤ sought + (index_effort index - 2) * m → shown + index_effort index * (left - 1) * m ≤ first + index_effort index * links * m
cost_by index first at sought shown m zero links some so_far search look = absurd (omega (arith, some))
cost_by Omitted first at sought shown m (suc left) links some so_far search look = let e : suc left - 1
    ≡ left = omega arith in rw e (omega arith)
cost_by Told first at sought shown m (suc left) links some so_far search look = let e : suc left - 1
    ≡ left = omega arith in rw e (omega arith)

pub cost_since : (lines : LinkLines) (first at sought shown m left links : ℕ) → 0 < left
    → at + link_effort lines * left * m ≤ first + link_effort lines * links * m → sought ≤ at + 2 * m
    → shown ≤ sought + (link_effort lines - 2) * m → shown + link_effort lines * (left - 1) * m ≤ first + link_effort lines * links * m
cost_since lines = cost_by lines.index

-- where no more is told
pub cost_left : (e first shown m left links : ℕ) → shown + e * left * m ≤ first + e * links * m → shown ≤ first + (e * links + 2) * m
cost_left e first shown m left links so_far = omega (arith, so_far)

pub cost_ended : (e first at shown m left links : ℕ) → at + e * left * m ≤ first + e * links * m → shown ≤ at + 2 * m
    → shown ≤ first + (e * links + 2) * m
cost_ended e first at shown m left links so_far search = omega (arith, so_far, search)

-- as many times the steps that there are
more_times : (a d r : ℕ) → a * d ≤ a * (d + r)
more_times zero d r = omega arith
more_times (suc a) d r = omega (arith, more_times a d r)

pub cost_done : (a first now n m since : ℕ) → now ≤ first + a * (n - (since - 1)) → m ≡ n → now + n ≤ first + (a + 1) * m
cost_done a first now n m since cost same =
    let d = n - (since - 1) in
    let split : d + (n - d) ≡ n = omega arith in
    let less : a * d ≤ a * n = rw split at (more_times a d (n - d)) in
    rw same (omega (arith, less, cost))
