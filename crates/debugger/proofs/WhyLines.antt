-- The lines of `why`, one after another.
use Rattle.std.proofs.Common.{◌≡◌, true, false, ℕ, zero, suc, ◌+◌, ◌-◌, ◌*◌, ◌<◌, ◌≤◌, List, [], ◌++◌, Some, None, Result, Ok, Err, refl}
use Rattle.std.proofs.Common.{sym, ap, ◌∙◌, append_assoc, append-nil, arith}
use Rattle.words.specs.Devices.{Writes, WritesBeginning}
use Rattle.words.specs.declared.device.WriteFailed.{WriteFailed}
use Rattle.words.proofs.Texts.{Writes-after, append-then, beginning-after, beginning-longer}
use Rattle.symbols.specs.Values.{SymbolTable}
use Rattle.cpu.specs.State.{Scenario}
use Rattle.cpu.specs.Chains.{cells_among, before_step}
use Rattle.cpu.specs.declared.spot.Spot.{Spot}
use Rattle.replay.specs.Whys.{last_writer}
use Rattle.commands.specs.declared.extended.IndexLines.{IndexLines}
use Rattle.commands.specs.declared.extended.IndexLines.TheVariants.{Omitted, Told}
use Rattle.commands.specs.declared.extended.LinkLines.{LinkLines}
use Rattle.debugger.specs.Conversation.{index_effort, link_effort}
use Rattle.origins.specs.Following.{CellSet}
use Rattle.debugger.specs.Whys.{why_text, last_text, target_spots, link_lines, end_from}
use Rattle.debugger.specs.ToldLinks.{ToldLinks}
use Rattle.debugger.proofs.ChainText.{why_zero, why_none, why_some}

-- before the first line
pub told_none : (symbols : SymbolTable) (scenario : Scenario) (lines : LinkLines) (k p : ℕ) (xs : List Spot) (cells : CellSet)
    (old : List ℕ) → cells ≡ cells_among xs
    → ToldLinks symbols scenario lines (why_text symbols scenario lines k p xs) old old k p cells
told_none symbols scenario lines k p xs cells old is = record
    { spots = xs; pending_is = is; text = []; goes_on = refl; written = sym (append-nil old) }

module _ (symbols : SymbolTable) (scenario : Scenario) (lines : LinkLines) (whole old now : List ℕ) (left before : ℕ) (cells : CellSet)
    (t : ToldLinks symbols scenario lines whole old now left before cells) where
  -- the last line
  ends : (new rest : List ℕ) (result : Result (Unit {0}) WriteFailed) → why_text symbols scenario lines left before t.spots ≡ rest
      → Writes now new rest result → Writes old new whole result
  ends new rest result is w = rw (t.goes_on, is) (Writes-after old now new t.text rest result t.written w)

  pub told_all : (new rest : List ℕ) (result : Result (Unit {0}) WriteFailed) → left ≡ 0
      → ((xs : List Spot) → cells ≡ cells_among xs → rest ≡ end_from symbols true xs) → Writes now new rest result
      → Writes old new whole result
  told_all new rest result none is w =
      ends new rest result (ap (λ n. why_text symbols scenario lines n before t.spots) none ∙ why_zero symbols scenario lines before t.spots
      ∙ sym (is t.spots t.pending_is)) w

  pub told_short : (new rest : List ℕ) (result : Result (Unit {0}) WriteFailed) → 0 < left
      → ((xs : List Spot) → cells ≡ cells_among xs → None ≡ last_writer scenario xs before)
      → ((xs : List Spot) → cells ≡ cells_among xs → rest ≡ end_from symbols false xs) → Writes now new rest result
      → Writes old new whole result
  told_short new rest result some none is w =
      let e : left ≡ suc (left - 1) = omega (arith, some) in
      ends new rest result (ap (λ n. why_text symbols scenario lines n before t.spots) e
      ∙ why_none symbols scenario lines before t.spots (left - 1) (sym (none t.spots t.pending_is)) ∙ sym (is t.spots t.pending_is)) w

  -- one line more
  more : (step : ℕ) → 0 < left → ((xs : List Spot) → cells ≡ cells_among xs → Some step ≡ last_writer scenario xs before)
      → whole ≡ t.text ++ (link_lines symbols scenario lines step t.spots
      ++ why_text symbols scenario lines (left - 1) step (before_step scenario step t.spots))
  more step some found =
      let e : left ≡ suc (left - 1) = omega (arith, some) in
      t.goes_on ∙ ap (λ (y : List ℕ). t.text ++ y)
      (ap (λ n. why_text symbols scenario lines n before t.spots) e
      ∙ why_some symbols scenario lines before t.spots (left - 1) step (sym (found t.spots t.pending_is)))

  pub told_more : (new line : List ℕ) (step : ℕ) (cells' : CellSet) → 0 < left
      → ((xs : List Spot) → cells ≡ cells_among xs → Some step ≡ last_writer scenario xs before)
      → ((xs : List Spot) → cells ≡ cells_among xs → line ≡ link_lines symbols scenario lines step xs)
      → ((xs : List Spot) → cells ≡ cells_among xs → cells' ≡ cells_among (before_step scenario step xs))
      → new ≡ now ++ line → ToldLinks symbols scenario lines whole old new (left - 1) step cells'
  told_more new line step cells' some found is follows w = record {
    spots = before_step scenario step t.spots;
    pending_is = follows t.spots t.pending_is;
    text = t.text ++ line;
    goes_on = more step some found ∙ ap (λ (l : List ℕ). t.text
        ++ (l ++ why_text symbols scenario lines (left - 1) step (before_step scenario step t.spots))) (sym (is t.spots t.pending_is))
        ∙ sym (append_assoc t.text line _);
    written = append-then old now new t.text line t.written w;
  }

  pub told_part : (new line : List ℕ) (step : ℕ) → 0 < left
      → ((xs : List Spot) → cells ≡ cells_among xs → Some step ≡ last_writer scenario xs before)
      → ((xs : List Spot) → cells ≡ cells_among xs → line ≡ link_lines symbols scenario lines step xs) → WritesBeginning now new line
      → WritesBeginning old new whole
  told_part new line step some found is w =
      rw (more step some found, ← is t.spots t.pending_is)
      (beginning-after old now new t.text _ t.written (beginning-longer now new line _ w))

-- one text after another
pub two_parts : (old now new text rest whole : List ℕ) (result : Result (Unit {0}) WriteFailed) → whole ≡ text ++ rest → now ≡ old ++ text
    → Writes now new rest result → Writes old new whole result
two_parts old now new text rest whole (Ok x) is first second = append-then old now new text rest first second
    ∙ ap (λ (y : List ℕ). old ++ y) (sym is)
two_parts old now new text rest whole (Err failed) is first second = rw is (beginning-after old now new text rest first second)

-- a beginning of the first of them
pub first_part : (old new text rest whole : List ℕ) → whole ≡ text ++ rest → WritesBeginning old new text → WritesBeginning old new whole
first_part old new text rest whole is first = rw is (beginning-longer old new text rest first)

-- what the step did that led to p steps, which are one at least
pub last_lines : (symbols : SymbolTable) (scenario : Scenario) (lines : LinkLines) (p : ℕ) → 0 < p
    → last_text symbols scenario lines p ≡ link_lines symbols scenario lines (p - 1) (target_spots scenario (p - 1))
    ++ end_from symbols true (before_step scenario (p - 1) (target_spots scenario (p - 1)))
unfolding last_text
last_lines symbols scenario lines zero h = absurd (omega (arith, h))
last_lines symbols scenario lines (suc t) h =
    let e : suc t - 1 ≡ t = omega arith in
    let xs = target_spots scenario t in
    rw e (ap (λ (y : List ℕ). y ++ end_from symbols true (before_step scenario t xs)) (append-nil (link_lines symbols scenario lines t xs)))

-- what a link costs: a search, two looks, a search for what entered an interrupt, and for an INDEX a search and a look
cost_by : (index : IndexLines) (first at sought shown n m t left links : ℕ) → 0 < left
    → at + index_effort index * left * n ≤ first + index_effort index * links * n → sought + 2 * t < at + 2 * n
    → shown ≤ sought + (2 * (m - t) + (index_effort index - 4) * m) → m ≡ n → t ≤ n
    → shown + index_effort index * (left - 1) * n ≤ first + index_effort index * links * n
cost_by index first at sought shown n m t zero links some so_far search look same within = absurd (omega (arith, some))
cost_by Omitted first at sought shown n m t (suc left) links some so_far search look same within = let e : suc left - 1
    ≡ left = omega arith in rw e
    (omega arith)
cost_by Told first at sought shown n m t (suc left) links some so_far search look same within = let e : suc left - 1
    ≡ left = omega arith in rw e
    (omega arith)

pub cost_more : (lines : LinkLines) (first at sought shown n m t left links : ℕ) → 0 < left
    → at + link_effort lines * left * n ≤ first + link_effort lines * links * n → sought + 2 * t < at + 2 * n
    → shown ≤ sought + (2 * (m - t) + (link_effort lines - 4) * m) → m ≡ n → t ≤ n
    → shown + link_effort lines * (left - 1) * n ≤ first + link_effort lines * links * n
cost_more lines = cost_by lines.index

-- where no more is told
pub cost_told : (e first shown n left links : ℕ) → shown + e * left * n ≤ first + e * links * n → shown ≤ first + (e * links + 1) * n
cost_told e first shown n left links so_far = omega (arith, so_far)
