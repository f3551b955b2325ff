-- What stands after a line of a survey, and what is told of it.
use Rattle.std.proofs.Common.{◌≡◌, ℕ, zero, suc, arith, map, take, append_assoc, ◌∷◌, ◌+◌, Bool, true, false, not, ◌&&◌, ◌||◌, List, []}
use Rattle.std.proofs.Common.{Option, Some, None, cond, refl, ap, sym, subst, ◌∙◌, ◌++◌, Result, Ok, Err}
use Rattle.std.specs.Prelude.{OnOk, if◌then◌else◌}
use Rattle.yayul.specs.declared.finding.Finding.{Finding}
use Rattle.std.specs.List.{list_all}
use Rattle.agc_text.specs.Bytes.{is_text_byte}
use Rattle.yayul.specs.declared.layout.Placing.{Placing}
use Rattle.yayul.specs.Layout.{statement_on, Layout, standing, statement_effect, text_faults}
use Rattle.yayul.specs.Language.{Equals, FaultKind, Gives, Label, Named, Operation}
use Rattle.yayul.specs.Language.{Value}
use Rattle.yayul.specs.Later.{settled, waiting_kind}
use Rattle.yayul.specs.Mended.{lacks_form, lacks_operand}
use Rattle.yayul.specs.Survey.{settled_survey, Survey, noted, nowhere, operation_on, counts_from_here, is_bare, is_done, is_kept}
use Rattle.yayul.specs.Survey.{extracode_after, label_lost, label_passed, kept_label, laid, passed_over, done_line, with_known}
use Rattle.yayul.specs.Survey.{layout_kinds, said_passed, some_stands, known_after, passed_line, passed_lines, told_lines, names_one}
use Rattle.yayul.specs.Survey.{waits_in_vain, erases, is_same_byte, wrong_byte, word_kinds, form_kinds, vain_kind, said_kinds, doubt}
use Rattle.yayul.specs.Survey.{taken_by, told_of, told_line}
use Rattle.yayul.specs.declared.doubt.Known.{Known}
use Rattle.yayul.specs.declared.doubt.Doubt.{Doubt}
use Rattle.yayul.specs.declared.survey.LineFaults.{LineFaults}
use Rattle.yayul.specs.declared.survey.Survey.{Survey as Held}
use Rattle.yayul.specs.Inside.Answers.{Agrees, Keeps, layout_of, with_requests}
use Rattle.yayul.specs.Inside.Surveys.{Surveys, kinds_of, doubt_of, vain_of}
use Rattle.yayul.specs.Inside.Representation.{promise_of}
use Rattle.yayul.specs.Inside.WordLines.{AreLines, with_lines, words_given}
use Rattle.yayul.proofs.LineAgrees.{named_keeps, next_keeps}
use Rattle.yayul.proofs.Equalled.{settled_follows}
use Rattle.yayul.proofs.LinesOfWords.{lines_next}

-- what was told is what is to be told
pub told_on : {A : Type 0} (result : Result (Unit {0}) A) (before after here there : List Finding) → here ≡ there
    → OnOk result (after ≡ before ++ here) → OnOk result (after ≡ before ++ there)
told_on (Ok x) before after here there same told = told ∙ ap (λ items. before ++ items) same
told_on (Err e) before after here there same told = tt

pub on_ok : {A : Type 0} {P Q : Type 0} (result : Result (Unit {0}) A) → (P → Q) → OnOk result P → OnOk result Q
on_ok (Ok x) f p = f p
on_ok (Err e) f p = tt

-- the requests before a line do not count for its word faults
bare_words : (table : List (List ℕ × Value)) (s : Layout) (formless : Bool) (operation : Operation)
    → word_kinds table (with_requests [] s) formless operation ≡ word_kinds table s formless operation
bare_words table s formless (Gives (Some content)) = refl
bare_words table s formless _ = refl

bare_waiting : (table : List (List ℕ × Value)) (s : Layout) (label : Label) (operation : Operation)
    → waiting_kind table (with_requests [] s) label operation ≡ waiting_kind table s label operation
bare_waiting table s (Named name) (Equals (Some operand)) = refl
bare_waiting table s _ _ = refl

-- ## What is told of a line
-- what a line says where a layout is held, it says where one stands that agrees with it
pub label_on : (line : ℕ) (s : Survey) (l : Held) (text : List ℕ) (label : Label) → Surveys line s l
    → label ≡ (statement_on (layout_of l.layout) text).label → label ≡ (statement_on s.layout text).label
label_on line s l text label here is = is ∙ ap (λ t. (statement_on t text).label) here.agrees.same

pub operation_said : (line : ℕ) (s : Survey) (l : Held) (text : List ℕ) (operation : Operation) → Surveys line s l
    → operation ≡ operation_on (layout_of l.layout) text → operation ≡ operation_on s.layout text
operation_said line s l text operation here is = is ∙ ap (λ t. operation_on t text) here.agrees.same

pub formless_on : (line : ℕ) (s : Survey) (l : Held) (text : List ℕ) (formless : Bool) → Surveys line s l
    → formless ≡ lacks_form (statement_on (layout_of l.layout) text).operation
    → formless ≡ lacks_form (statement_on s.layout text).operation
formless_on line s l text formless here is = is ∙ ap (λ t. lacks_form (statement_on t text).operation) here.agrees.same

-- what a name that a line lets wait comes to
pub vain_is : (line last : ℕ) (s w : Survey) (l v : Held) (label : Label) (operation : Operation) → Surveys line s l → Surveys last w v
    → vain_of v l label operation ≡ vain_kind w s label operation
vain_is line last s w l v label operation here whole =
    let waits : waiting_kind v.layout.symbols (layout_of l.layout) label operation
    ≡ waiting_kind w.layout.symbols s.layout label operation =
    ap (λ (t : Layout). waiting_kind t.symbols (layout_of l.layout) label operation) whole.agrees.same
    ∙ ap (λ t. waiting_kind w.layout.symbols t label operation) here.agrees.same
    ∙ bare_waiting w.layout.symbols s.layout label operation in
    λ i. cond (names_one (whole.lost i) operation || waits_in_vain (here.agrees.same i).promised (whole.agrees.same i).symbols operation)
    None (waits i)

-- what follows from other faults
pub doubt_is : (line last : ℕ) (s w : Survey) (l v : Held) (text : List ℕ) (operation : Operation) → Surveys line s l → Surveys last w v
    → doubt_of v l text operation ≡ doubt w s text operation
doubt_is line last s w l v text operation here whole = λ i. record {
  bytes = not (list_all is_text_byte text);
  repeated = is_same_byte (wrong_byte text) (here.known i).wrong;
  location = not (here.known i).location;
  erased = erases operation && not (here.known i).location;
  counted = counts_from_here operation && not (here.known i).location;
  symbol = names_one (whole.lost i) operation || waits_in_vain (whole.agrees.same i).promised (whole.agrees.same i).symbols operation;
  early = names_one (here.lost i) operation;
  extracode = not (here.known i).extracode;
}

-- what is told of a line that says this
pub line_told : (line last : ℕ) (s w : Survey) (l v : Held) (text : List ℕ) (label : Label) (operation : Operation) (formless : Bool)
    (faults : LineFaults) (d : Doubt) (taken : Option ℕ)
    → label ≡ (statement_on s.layout text).label → operation ≡ operation_on s.layout text
    → formless ≡ lacks_form (statement_on s.layout text).operation
    → Surveys line s l → Surveys last w v → d ≡ doubt w s text operation
    → standing faults.of_text ≡ text_faults l.layout.language line text
    → standing (faults.of_form ∷ []) ≡ form_kinds formless
    → standing faults.of_layout ≡ (statement_effect line s.layout label operation).faults
    → faults.of_promise ≡ vain_kind w s label operation
    → standing faults.of_words ≡ word_kinds v.layout.symbols (layout_of l.layout) formless operation
    → taken ≡ taken_by s.layout operation
    → told_of l.layout.language d line text taken (kinds_of faults) ≡ told_line w line s text
line_told line last s w l v text label operation formless faults d taken is_label is_operation is_formless here whole is of_text of_form
    of_layout of_promise of_words of_place =
    let words : standing faults.of_words ≡ word_kinds w.layout.symbols s.layout formless operation =
    of_words ∙ ap (λ (t : Layout). word_kinds t.symbols (layout_of l.layout) formless operation) whole.agrees.same
    ∙ ap (λ t. word_kinds w.layout.symbols t formless operation) here.agrees.same
    ∙ bare_words w.layout.symbols s.layout formless operation in
    let of_line : standing faults.of_text ≡ text_faults s.layout.language line text = of_text
    ∙ ap (λ (t : Layout). text_faults t.language line text) here.agrees.same in
    let kinds : kinds_of faults ≡ said_kinds w line s text label formless operation = λ i. of_line i ++ of_form i ++ of_layout i
    ++ standing (of_promise i ∷ []) ++ words i in
    ap (λ (t : Layout). told_of t.language d line text taken (kinds_of faults)) here.agrees.same
    ∙ (λ i. told_of s.layout.language (is i) line text (of_place i) (kinds i))
    ∙ (λ i. told_of s.layout.language (doubt w s text (is_operation i)) line text (taken_by s.layout (is_operation i))
    (said_kinds w line s text (is_label i) (is_formless i) (is_operation i)))

-- ## What stands after a line
-- what is held of the words of a layout, where another has its symbols and requests
alike : (line : ℕ) (s t : Layout) (p : Placing) → t.symbols ≡ s.symbols → t.requests ≡ s.requests → Keeps line s p → Keeps line t p
alike line s t p symbols requests keeps = record {
  holds = rw (symbols, requests) keeps.holds;
  known = rw (symbols, requests) keeps.known;
  ends = rw requests keeps.ends;
}

-- a label that has no value
abbrev unnamed : Layout → Label → Operation → Layout
unnamed s label operation = if is_bare operation then s else record s { promised = noted s.promised label }

module _ (line : ℕ) (s : Survey) (old new : Held) (here : Surveys line s old) (lines : new.lines ≡ old.lines)
    (placing : new.placing ≡ old.placing) where
  pub lost_stands : (label : Label) (operation : Operation) → layout_of new.layout ≡ unnamed (layout_of old.layout) label operation
      → new.lost ≡ noted old.lost label → new.known ≡ old.known
      → Surveys line (label_lost s label operation) new
  lost_stands label operation layout lost known =
      record {
        agrees = record {
          same = layout ∙ ap (λ t. unnamed t label operation) here.agrees.same ∙ by_bare (is_bare operation);
          keeps = rw placing (alike line s.layout (label_lost s label operation).layout old.placing (symbols_bare (is_bare operation))
              (requests_bare (is_bare operation)) here.agrees.keeps);
        };
        lines = rw lines (subst (λ requests. AreLines old.lines requests) (sym (requests_bare (is_bare operation))) here.lines);
        lost = lost ∙ ap (λ names. noted names label) here.lost;
        known = known ∙ here.known;
      }
    where
      by_bare : (bare : Bool) → cond bare (with_requests [] s.layout)
          (record (with_requests [] s.layout) { promised = noted s.layout.promised label })
          ≡ with_requests [] (cond bare s.layout (record s.layout { promised = noted s.layout.promised label }))
      by_bare true = refl
      by_bare false = refl

      symbols_bare : (bare : Bool) → (cond bare s.layout (record s.layout { promised = noted s.layout.promised label })).symbols
          ≡ s.layout.symbols
      symbols_bare true = refl
      symbols_bare false = refl

      requests_bare : (bare : Bool) → (cond bare s.layout (record s.layout { promised = noted s.layout.promised label })).requests
          ≡ s.layout.requests
      requests_bare true = refl
      requests_bare false = refl

  -- a line that is passed over
  pub over_stands : (operation : Operation) → layout_of new.layout
      ≡ record (layout_of old.layout) { extracode = extracode_after operation old.layout.extracode } → new.lost ≡ old.lost
      → new.known ≡ old.known
      → Surveys (line + 1) (passed_over s operation) new
  over_stands operation layout lost known =
      record {
        agrees = record {
          same = layout ∙ ap (λ (t : Layout). record t { extracode = extracode_after operation t.extracode }) here.agrees.same;
          keeps = rw placing (alike (line + 1) s.layout (passed_over s operation).layout old.placing refl refl
              (next_keeps line s.layout old.placing here.agrees.keeps));
        };
        lines = rw lines here.lines;
        lost = lost ∙ here.lost;
        known = known ∙ here.known;
      }

  -- what is known, and where the location is not, one of no account
  abbrev placed : Bool → Layout → Layout
  placed known t = if known then t else record t { location = nowhere }

  pub known_stands : (known : Known) → layout_of new.layout ≡ placed known.location (layout_of old.layout) → new.lost ≡ old.lost
      → new.known ≡ known → Surveys line (with_known s known) new
  known_stands known layout lost is =
      record {
        agrees = record {
          same = layout ∙ ap (placed known.location) here.agrees.same ∙ by_known known.location;
          keeps = rw placing (alike line s.layout (with_known s known).layout old.placing (symbols_known known.location)
              (requests_known known.location) here.agrees.keeps);
        };
        lines = rw lines (subst (λ requests. AreLines old.lines requests) (sym (requests_known known.location)) here.lines);
        lost = lost ∙ here.lost;
        known = is;
      }
    where
      by_known : (b : Bool) → placed b (with_requests [] s.layout) ≡ with_requests [] (placed b s.layout)
      by_known true = refl
      by_known false = refl

      symbols_known : (b : Bool) → (placed b s.layout).symbols ≡ s.layout.symbols
      symbols_known true = refl
      symbols_known false = refl

      requests_known : (b : Bool) → (placed b s.layout).requests ≡ s.layout.requests
      requests_known true = refl
      requests_known false = refl

-- a line that has a fault does nothing
pub laid_none : (line : ℕ) (s : Survey) (old : Held) (label : Label) (operation : Operation)
    → some_stands (statement_effect line s.layout label operation).faults ≡ true → Surveys line s old
    → Surveys (line + 1) (laid line s label operation) old
laid_none line s old label operation stands here =
    let same : (laid line s label operation).layout
    ≡ s.layout = ap (λ b. cond b s.layout (statement_effect line s.layout label operation).after) stands in
    record {
      agrees = subst (λ t. Agrees (line + 1) t old.layout old.placing) (sym same)
          (record { same = here.agrees.same; keeps = next_keeps line s.layout old.placing here.agrees.keeps });
      lines = subst (λ (t : Layout). AreLines old.lines t.requests) (sym same) here.lines;
      lost = here.lost;
      known = here.known;
    }

-- another does what it says
pub laid_done : (line : ℕ) (s : Survey) (old new : Held) (label : Label) (operation : Operation)
    → some_stands (statement_effect line s.layout label operation).faults ≡ false → Surveys line s old
    → Agrees (line + 1) (statement_effect line s.layout label operation).after new.layout new.placing
    → new.lines ≡ with_lines line old.layout.location (words_given operation) old.lines → new.lost ≡ old.lost → new.known ≡ old.known
    → Surveys (line + 1) (laid line s label operation) new
laid_done line s old new label operation none here agrees lines lost known =
    let same : (laid line s label operation).layout
    ≡ (statement_effect line s.layout label operation).after = ap
    (λ b. cond b s.layout (statement_effect line s.layout label operation).after) none in
    let held : AreLines new.lines (statement_effect line s.layout label operation).after.requests =
    lines_next line s.layout label operation old.layout.location old.lines new.lines (ap (λ (t : Layout). t.location) here.agrees.same)
    here.lines agrees.keeps.holds.within lines in
    record {
      agrees = subst (λ t. Agrees (line + 1) t new.layout new.placing) (sym same) agrees;
      lines = subst (λ (t : Layout). AreLines new.lines t.requests) (sym same) held;
      lost = lost ∙ here.lost;
      known = known ∙ here.known;
    }

-- what is done of a line
pub done_is : (line : ℕ) (s : Survey) (label label_next : Label) (operation : Operation) (done kept : Bool)
    → label_next ≡ kept_label kept label → done ≡ true
    → laid line (label_passed kept s label operation) label_next operation ≡ done_line line s label operation done kept
done_is line s label label_next operation done kept is so =
    ap (λ l. laid line (label_passed kept s label operation) l operation) is
    ∙ sym (ap (λ d. cond d (laid line (label_passed kept s label operation) (kept_label kept label) operation)
    (passed_over (label_passed kept s label operation) operation)) so)

pub over_is : (line : ℕ) (s : Survey) (label : Label) (operation : Operation) (done kept : Bool) → done ≡ false
    → passed_over (label_passed kept s label operation) operation ≡ done_line line s label operation done kept
over_is line s label operation done kept so =
    sym (ap (λ d. cond d (laid line (label_passed kept s label operation) (kept_label kept label) operation)
    (passed_over (label_passed kept s label operation) operation)) so)

-- what stands after a line that says this
pub said_stands : (line : ℕ) (s : Survey) (old new : Held) (text : List ℕ) (label : Label) (operation : Operation) (alone done : Bool)
    (kinds : List FaultKind) → Surveys line s old
    → label ≡ (statement_on s.layout text).label → operation ≡ operation_on s.layout text → alone ≡ lacks_operand old.layout.language text
    → kinds ≡ (statement_effect line s.layout label operation).faults → done ≡ is_done old.known alone operation kinds
    → Surveys (line + 1) (with_known (done_line line s label operation done (is_kept done kinds))
    (known_after old.known text operation done)) new
    → Surveys (line + 1) (passed_line line s text) new
unfolding passed_line
said_stands line s old new text label operation alone done kinds here is_label is_operation is_alone is_kinds is_done_so stands =
    let language : old.layout.language ≡ s.layout.language = ap (λ (t : Layout). t.language) here.agrees.same in
    let lone : alone ≡ lacks_operand s.layout.language text = is_alone ∙ ap (λ l. lacks_operand l text) language in
    let so : done ≡ is_done s.known (lacks_operand s.layout.language text) operation kinds =
    is_done_so ∙ (λ i. is_done (here.known i) (lone i) operation kinds) in
    let first : with_known (done_line line s label operation done (is_kept done kinds)) (known_after old.known text operation done)
    ≡ said_passed line s text label operation (is_done s.known (lacks_operand s.layout.language text) operation kinds) kinds =
    (λ i. with_known (done_line line s label operation (so i) (is_kept (so i) kinds)) (known_after (here.known i) text operation (so i))) in
    let second : said_passed line s text label operation (is_done s.known (lacks_operand s.layout.language text) operation kinds) kinds
    ≡ passed_line line s text =
    ap (λ ks. said_passed line s text label operation (is_done s.known (lacks_operand s.layout.language text) operation ks) ks) is_kinds
    ∙ (λ i. said_passed line s text (is_label i) (is_operation i)
    (is_done s.known (lacks_operand s.layout.language text) (is_operation i) (layout_kinds line s.layout (is_label i) (is_operation i)))
    (layout_kinds line s.layout (is_label i) (is_operation i))) in
    subst (λ t. Surveys (line + 1) t new) (first ∙ second) stands

-- a survey with the values of the names that wait
pub settled_stands : (line : ℕ) (s : Survey) (old new : Held) → Surveys line s old
    → layout_of new.layout ≡ record (layout_of old.layout)
    { symbols = settled (map promise_of old.layout.promises.items) old.layout.symbols }
    → new.placing ≡ old.placing → new.lines ≡ old.lines → new.lost ≡ old.lost → new.known ≡ old.known → Surveys line (settled_survey s) new
settled_stands line s old new here layout placing lines lost known =
    let more = settled_follows s.layout.promises s.layout.symbols in
    record {
      agrees = record {
        same = layout ∙ ap (λ (t : Layout). record t { symbols = settled t.promises t.symbols }) here.agrees.same;
        keeps = rw placing (subst (λ (table : List (List ℕ × Value)). Keeps line (record s.layout { symbols = table }) old.placing)
            (sym more.1) (named_keeps line s.layout old.placing more.0 here.agrees.keeps));
      };
      lines = rw lines here.lines;
      lost = lost ∙ here.lost;
      known = known ∙ here.known;
    }

-- so many of some lines, where a line stands first
pub take_first : (n m : ℕ) (here after : List (List ℕ)) (text : List ℕ) → n ≡ m + 1 → here ≡ text ∷ after
    → take n here ≡ text ∷ take m after
take_first n m here after text count lines =
    let more : n ≡ suc m = omega (arith, count) in
    ap (λ k. take k here) more ∙ ap (take (suc m)) lines

pub take_none : (n : ℕ) (here : List (List ℕ)) → here ≡ [] → take n here ≡ []
take_none zero here e = refl
take_none (suc n) here e = ap (take (suc n)) e

pub none_left : (n : ℕ) (here : List (List ℕ)) → n ≡ 0 → take n here ≡ []
none_left n here e = ap (λ k. take k here) e

-- the lines of a survey, where one is passed
pub lines_passed : (line n m : ℕ) (s : Survey) (here after : List (List ℕ)) (text : List ℕ) → n ≡ m + 1 → here ≡ text ∷ after
    → passed_lines line s (take n here) ≡ passed_lines (line + 1) (passed_line line s text) (take m after)
lines_passed line n m s here after text count lines = ap (passed_lines line s) (take_first n m here after text count lines)

-- what is told of the lines, where it is told of one
pub lines_told : (line n m : ℕ) (s whole : Survey) (here after : List (List ℕ)) (text : List ℕ) (all before next : List Finding) → n ≡ m + 1
    → here ≡ text ∷ after
    → all ≡ before ++ told_lines whole line s (take n here) → next ≡ before ++ told_line whole line s text
    → all ≡ next ++ told_lines whole (line + 1) (passed_line line s text) (take m after)
lines_told line n m s whole here after text all before next count lines so_far told =
    so_far ∙ ap (λ texts. before ++ told_lines whole line s texts) (take_first n m here after text count lines)
    ∙ sym (append_assoc before (told_line whole line s text) (told_lines whole (line + 1) (passed_line line s text) (take m after)))
    ∙ ap (λ items. items ++ told_lines whole (line + 1) (passed_line line s text) (take m after)) (sym told)
