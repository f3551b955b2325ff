-- What is told of a source is sure: it rests on no place that is not known.
use Rattle.std.proofs.Common.{◌≡◌, ℕ, ◌+◌, ◌-◌, ◌<◌, Bool, true, false, ◌&&◌, ◌||◌, not, cond, length, List, [], ◌∷◌, ◌++◌, map, take}
use Rattle.std.proofs.Common.{Option, Some, None, Result, Ok, Err, refl, ap, sym, subst, ◌∙◌, arith, append_assoc}
use Rattle.std.specs.Prelude.{All, IfSome, nat_lt, slice_get, unwrap_or, if◌then◌else◌}
use Rattle.std.specs.List.{list_all, filter, find}
use Rattle.std.specs.Option.{option_map, option_map_or, option_or}
use Rattle.std.proofs.lemmas.Bool.{and_parts}
use Rattle.std.proofs.lemmas.List.{length-append}
use Rattle.std.proofs.lemmas.List.Elements.{All-nil, All-cons, All-head, All-tail, All-append, All-push, All-weaker}
use Rattle.yayul.specs.Layout.{LineEffect, Request, Layout, valued, value_here, defined, asked, asked_here, fault_number, word_place}
use Rattle.yayul.specs.Layout.{after_words, statement_on, statement_effect, stands_at, width}
use Rattle.yayul.specs.Laws.{FindingsAreSure, IsSure, before_line, is_of_own_address, is_of_place, said_on, text_of_line}
use Rattle.yayul.specs.Mended.{lacks_operand}
use Rattle.yayul.specs.Survey.{Survey, unmarked, operation_on, doubt, erases, counts_from_here, follows, kinds_on, is_bare, is_done}
use Rattle.yayul.specs.Survey.{is_kept, is_one_of, is_of_label, finding, kept_label, known_after, label_passed, laid, layout_kinds, line_at}
use Rattle.yayul.specs.Survey.{line_kinds, named_line, noted, nowhere, passed_line, passed_lines, passed_over, rests_on_known, said_passed}
use Rattle.yayul.specs.Survey.{settled_survey, some_stands, taken_by, told_line, told_lines, looked_at, told, with_known, word_line}
use Rattle.yayul.specs.Language.{Language, BankFull, CodeInErasable, Content, Equals, FaultKind, Gives, Label, Nothing, Unknown, Setloc}
use Rattle.yayul.specs.Language.{Bank, Erase, Ebank, Operation, OutOfRange, PlaceTaken, Location, Value, WrongKindOfAddress}
use Rattle.yayul.specs.declared.doubt.Known.{Known}
use Rattle.yayul.specs.declared.finding.Finding.{Finding}
use Rattle.yayul.proofs.Equalled.{by_later, promise_requests}
use Rattle.yayul.proofs.LineRequests.{defined_keeps}
use Rattle.yayul.proofs.TakenPlaces.{or-parts}

-- ## The words that a line asks for
-- a line gives words
abbrev gives_words : Operation → Bool
gives_words (Gives content) = true
gives_words _ = false

-- what holds of each request of a layout, and of one for a line that gives words
module _ (Q : Request → Type 0) (line : ℕ) where
  asked_all : (s : Layout) (content : Content) → ((r : Request) → r.line ≡ line → Q r) → All Q s.requests
      → All Q (asked_here line s content).requests
  asked_all s content new all = by_place (word_place s.location)
    where
      by_place : (place : Option (ℕ × ℕ)) → All Q (option_map_or
          (λ p. asked s (record { line = line; bank = p.0; offset = p.1; content = content; extracode = s.extracode; eb = s.eb })) place
          s).requests
      by_place None = all
      by_place (Some p) = All-push Q s.requests (record
          { line = line; bank = p.0; offset = p.1; content = content; extracode = s.extracode; eb = s.eb }) all (new _ refl)

  same_all : (before after : List Request) → after ≡ before → All Q before → All Q after
  same_all before after same all = subst (λ (rs : List Request). All Q rs) (sym same) all

  statement_all : (s : Layout) (label : Label) (operation : Operation)
      → (gives_words operation ≡ true → (r : Request) → r.line ≡ line → Q r) → All Q s.requests
      → All Q (statement_effect line s label operation).after.requests
  statement_all s label Nothing new all = same_all s.requests _ (defined_keeps s label (value_here s.location)).1 all
  statement_all s label Unknown new all = all
  statement_all s label (Setloc operand) new all = all
  statement_all s label (Bank taken number) new all = all
  statement_all s label (Erase count) new all = same_all s.requests _ (defined_keeps s label (value_here s.location)).1 all
  statement_all s label (Equals operand) new all =
      by_later (λ (x : LineEffect). All Q x.after.requests) line s label operand
      (λ value. same_all s.requests _ (valued_requests value) all) (λ o. same_all s.requests _ (promise_requests line s label o) all)
    where
      valued_requests : (value : Result Value FaultKind) → (valued s label value).after.requests ≡ s.requests
      valued_requests (Ok value) = (defined_keeps s label value).1
      valued_requests (Err kind) = refl
  statement_all s label (Ebank operand) new all = all
  statement_all s label (Gives None) new all = all
  statement_all s label (Gives (Some content)) new all =
      asked_all (defined s label (value_here s.location)) content (new refl)
      (same_all s.requests _ (defined_keeps s label (value_here s.location)).1 all)

  lost_all : (kept : Bool) (s : Survey) (label : Label) (operation : Operation) → All Q s.layout.requests
      → All Q (label_passed kept s label operation).layout.requests
  lost_all true s label operation all = all
  lost_all false s label operation all = by_bare (is_bare operation)
    where
      by_bare : (b : Bool) → All Q (cond b s.layout (record s.layout { promised = noted s.layout.promised label })).requests
      by_bare true = all
      by_bare false = all

  laid_all : (s : Survey) (label : Label) (operation : Operation) → (gives_words operation ≡ true → (r : Request) → r.line ≡ line → Q r)
      → All Q s.layout.requests
      → All Q (laid line s label operation).layout.requests
  laid_all s label operation new all = by_faults (some_stands (statement_effect line s.layout label operation).faults)
    where
      by_faults : (b : Bool) → All Q (cond b s.layout (statement_effect line s.layout label operation).after).requests
      by_faults true = all
      by_faults false = statement_all s.layout label operation new all

  known_all : (s : Survey) (known : Known) → All Q s.layout.requests → All Q (with_known s known).layout.requests
  known_all s known all = by_known known.location
    where
      by_known : (b : Bool) → All Q (cond b s.layout (record s.layout { location = nowhere })).requests
      by_known true = all
      by_known false = all

  said_all : (s : Survey) (text : List ℕ) (label : Label) (operation : Operation) (done : Bool) (kinds : List FaultKind)
      → (done ≡ true → gives_words operation ≡ true → (r : Request) → r.line ≡ line → Q r) → All Q s.layout.requests
      → All Q (said_passed line s text label operation done kinds).layout.requests
  said_all s text label operation true kinds new all =
      known_all (laid line (label_passed (is_kept true kinds) s label operation) (kept_label (is_kept true kinds) label) operation)
      (known_after s.known text operation true)
      (laid_all (label_passed (is_kept true kinds) s label operation) (kept_label (is_kept true kinds) label) operation (new refl)
      (lost_all (is_kept true kinds) s label operation all))
  said_all s text label operation false kinds new all =
      known_all (passed_over (label_passed (is_kept false kinds) s label operation) operation) (known_after s.known text operation false)
      (lost_all (is_kept false kinds) s label operation all)

-- words are given where the location is known
rests_on_location : (known : Known) (alone : Bool) (operation : Operation) → gives_words operation ≡ true
    → rests_on_known known alone operation ≡ true → known.location ≡ true
rests_on_location known alone (Gives content) gives rests = rests
rests_on_location known alone _ gives rests = absurd (cc)

-- what holds of each request, and of one for this line where it is known where it stands
passed_all : (Q : Request → Type 0) (line : ℕ) (s : Survey) (text : List ℕ)
    → (s.known.location ≡ true → (r : Request) → r.line ≡ line → Q r) → All Q s.layout.requests
    → All Q (passed_line line s text).layout.requests
unfolding passed_line
passed_all Q line s text new all =
    let label : Label = (statement_on s.layout text).label in
    let operation : Operation = operation_on s.layout text in
    let alone : Bool = lacks_operand s.layout.language text in
    let kinds : List FaultKind = layout_kinds line s.layout label operation in
    said_all Q line s text label operation (is_done s.known alone operation kinds) kinds
    (λ done gives. new (rests_on_location s.known alone operation gives
    (and_parts (list_all is_of_label kinds) (rests_on_known s.known alone operation) done).1)) all

-- ## What is told of a line
-- a fault that does not follow from another rests on no place that is not known
module _ (whole s : Survey) (text : List ℕ) (operation : Operation) where
  known_where : (b : Bool) → not b ≡ false → b ≡ true
  known_where true e = refl
  known_where false e = absurd (cc)

  -- a fault of the address of a line that erases, or counts from itself
  of_address : (b : Bool) → b ≡ true → (b && not s.known.location) ≡ false → s.known.location ≡ true
  of_address true is e = known_where s.known.location e
  of_address false is e = absurd (cc)

  of_either : (a b : Bool) → (a || b) ≡ true → ((a && not s.known.location) || (b && not s.known.location)) ≡ false
      → s.known.location ≡ true
  of_either true b is e = known_where s.known.location (or-parts (not s.known.location) (b && not s.known.location) e).0
  of_either false b is e = of_address b is e

  drop_false : (a : Bool) → (a || false) ≡ true → a ≡ true
  drop_false true e = refl
  drop_false false e = absurd (cc)

  own_of : (kind : FaultKind) → (is_of_place (fault_number kind) || is_of_own_address (fault_number kind) operation) ≡ true
      → follows (doubt whole s text operation) kind ≡ false → s.known.location ≡ true
  own_of BankFull is e = known_where s.known.location (or-parts (doubt whole s text operation).bytes (not s.known.location) e).1
  own_of PlaceTaken is e = known_where s.known.location (or-parts (doubt whole s text operation).bytes (not s.known.location) e).1
  own_of CodeInErasable is e = known_where s.known.location (or-parts (doubt whole s text operation).bytes (not s.known.location) e).1
  own_of WrongKindOfAddress is e =
      of_either (erases operation) (counts_from_here operation) (drop_false (erases operation || counts_from_here operation) is)
      (or-parts (doubt whole s text operation).bytes
      ((erases operation && not s.known.location) || (counts_from_here operation && not s.known.location)) e).1
  own_of OutOfRange is e =
      of_address (counts_from_here operation) is (or-parts (doubt whole s text operation).bytes
      (counts_from_here operation && not s.known.location) e).1
  own_of _ is e = absurd (cc)

-- the line of the first request that stands at a place is that of one of the requests
line_found : (P : ℕ → Type 0) (bank offset : ℕ) (rs : List Request) → All (λ (r : Request). P r.line) rs
    → IfSome (word_line rs bank offset) P
line_found P bank offset [] all = tt
line_found P bank offset (r ∷ rs) all = by_test (line_found P bank offset rs (All-tail (λ (q : Request). P q.line) r rs all))
    (stands_at bank offset r)
  where
    by_test : IfSome (word_line rs bank offset) P → (b : Bool)
        → IfSome (option_map (λ (q : Request). q.line) (cond b (Some r) (find (stands_at bank offset) rs))) P
    by_test later true = All-head (λ (q : Request). P q.line) r rs all
    by_test later false = later

module _ (P : ℕ → Type 0) (s : Layout) (all : All (λ (r : Request). P r.line) s.requests) where
  at_location : (here : Location) → IfSome (line_at s here) P
  at_location here = by_place (word_place here)
    where
      by_place : (place : Option (ℕ × ℕ)) → IfSome (option_map_or (λ p. word_line s.requests p.0 p.1) place None) P
      by_place None = tt
      by_place (Some p) = line_found P p.0 p.1 s.requests all

  either : (a b : Option ℕ) → IfSome a P → IfSome b P → IfSome (option_or a b) P
  either None b of_a of_b = of_b
  either (Some line) b of_a of_b = of_a

  at_second : (two : Bool) → IfSome (cond two (line_at s (after_words 1 s.location)) None) P
  at_second true = at_location (after_words 1 s.location)
  at_second false = tt

  taken_all : (operation : Operation) → IfSome (taken_by s operation) P
  taken_all (Gives (Some content)) = either (line_at s s.location)
      (if nat_lt 1 (width content) then line_at s (after_words 1 s.location) else None) (at_location s.location)
      (at_second (nat_lt 1 (width content)))
  taken_all _ = tt

named_all : (P : ℕ → Type 0) (taken : Option ℕ) (kind : FaultKind) → IfSome taken P → IfSome (named_line taken kind) P
named_all P taken PlaceTaken is = is
named_all P taken _ is = tt

-- what holds of the findings of some kinds, of those that pass a test
pub told_all : (P : Finding → Type 0) (f : FaultKind → Finding) (test : FaultKind → Bool) (kinds : List FaultKind)
    → ((kind : FaultKind) → test kind ≡ true → P (f kind)) → All P (map f (filter test kinds))
told_all P f test [] each = All-nil P
told_all P f test (kind ∷ kinds) each = by_test (told_all P f test kinds each) (test kind) refl
  where
    by_test : All P (map f (filter test kinds)) → (b : Bool) → test kind ≡ b
        → All P (map f (cond b (kind ∷ filter test kinds) (filter test kinds)))
    by_test later true is = All-cons P (f kind) (map f (filter test kinds)) (each kind is) later
    by_test later false is = later

-- ## The lines of a source
-- the lines before one of a source
take-front : (xs ys : List (List ℕ)) → take (length xs) (xs ++ ys) ≡ xs
take-front [] ys = refl
take-front (x ∷ xs) ys = ap (λ zs. x ∷ zs) (take-front xs ys)

get-next : (xs ys : List (List ℕ)) (y : List ℕ) → slice_get (xs ++ y ∷ ys) (length xs) ≡ Some y
get-next [] ys y = refl
get-next (x ∷ xs) ys y = get-next xs ys y

passed-more : (xs : List (List ℕ)) (text : List ℕ) (line last : ℕ) (s : Survey) → last ≡ line + length xs
    → passed_lines line s (xs ++ text ∷ []) ≡ passed_line last (passed_lines line s xs) text
passed-more [] text line last s e = let same : line ≡ last = omega (arith, e) in ap (λ n. passed_line n s text) same
passed-more (x ∷ xs) text line last s e = passed-more xs text (line + 1) last (passed_line line s x) (omega (arith, e))

-- a line of a source, the lines before it and those after it
module _ (language : Language) (source : List ℕ) (done texts : List (List ℕ)) (text : List ℕ) (line : ℕ)
    (all : looked_at language source ≡ done ++ text ∷ texts) (at : line ≡ length done + 1) where
  -- what stands before it
  pub line_before : before_line language source line ≡ passed_lines 1 (unmarked language) done
  line_before =
      let before : line - 1 ≡ length done = omega (arith, at) in
      ap (passed_lines 1 (unmarked language)) (ap (λ n. take n (looked_at language source)) before ∙ ap (take (length done)) all
      ∙ take-front done (text ∷ texts))

  pub line_text : text_of_line language source line ≡ text
  line_text =
      let before : line - 1 ≡ length done = omega (arith, at) in
      ap (λ (found : Option (List ℕ)). unwrap_or found [])
      (ap (slice_get (looked_at language source)) before ∙ ap (λ (ts : List (List ℕ)). slice_get ts (length done)) all
      ∙ get-next done texts text)

  pub line_said : said_on language source line ≡ operation_on (passed_lines 1 (unmarked language) done).layout text
  line_said = λ i. operation_on (line_before i).layout (line_text i)

  pub line_after : passed_lines 1 (unmarked language) (done ++ text ∷ []) ≡ passed_line line (passed_lines 1 (unmarked language) done) text
  line_after = passed-more done text 1 line (unmarked language) (omega (arith, at))

  pub lines_after : looked_at language source ≡ (done ++ text ∷ []) ++ texts
  lines_after = all ∙ sym (append_assoc done (text ∷ []) texts)

  pub next_at : line + 1 ≡ length (done ++ text ∷ []) + 1
  next_at = let more : length (done ++ text ∷ []) ≡ length done + 1 = length-append done (text ∷ []) in omega (arith, at, more)

pub not_false : (b : Bool) → not b ≡ true → b ≡ false
not_false true e = absurd (cc)
not_false false e = refl

-- a request of a line above, where it is known where that line stands
abbrev IsAsked : Language → List ℕ → ℕ → ℕ → Type 0
IsAsked language source line named = (named < line) × ((before_line language source named).known.location ≡ true)

module _ (language : Language) (source : List ℕ) (whole : Survey) (done texts : List (List ℕ)) (text : List ℕ) (line : ℕ)
    (all : looked_at language source ≡ done ++ text ∷ texts) (at : line ≡ length done + 1) where
  abbrev s : Survey
  s = passed_lines 1 (unmarked language) done

  abbrev operation : Operation
  operation = operation_on (passed_lines 1 (unmarked language) done).layout text

  new : s.known.location ≡ true → (r : Request) → r.line ≡ line → IsAsked language source (line + 1) r.line
  new known r on = (
    omega (arith, on),
    ap (λ n. (before_line language source n).known.location) on
        ∙ ap (λ (t : Survey). t.known.location) (line_before language source done texts text line all at) ∙ known,
  )

  next_asked : All (λ (r : Request). IsAsked language source line r.line) s.layout.requests
      → All (λ (r : Request). IsAsked language source (line + 1) r.line) (passed_line line s text).layout.requests
  next_asked asked =
      passed_all (λ (r : Request). IsAsked language source (line + 1) r.line) line s text new
      (All-weaker (λ (r : Request). IsAsked language source line r.line) (λ (r : Request). IsAsked language source (line + 1) r.line)
      (λ r before. (omega (arith, before.0), before.1)) s.layout.requests asked)

  each_sure : All (λ (r : Request). IsAsked language source line r.line) s.layout.requests → (kind : FaultKind)
      → (is_one_of (line_kinds whole line s text) kind && not (follows (doubt whole s text operation) kind)) ≡ true
      → IsSure language source (finding s.layout.language line text (taken_by s.layout operation) kind)
  each_sure asked kind is = record {
    own = λ rests. ap (λ (t : Survey). t.known.location) (line_before language source done texts text line all at)
        ∙ own_of whole s text operation kind
        (subst (λ (o : Operation). (is_of_place (fault_number kind) || is_of_own_address (fault_number kind) o) ≡ true)
        (line_said language source done texts text line all at) rests)
        (not_false (follows (doubt whole s text operation) kind)
        (and_parts (is_one_of (line_kinds whole line s text) kind) (not (follows (doubt whole s text operation) kind)) is).1);
    named = named_all (IsAsked language source line) (taken_by s.layout operation) kind
        (taken_all (IsAsked language source line) s.layout asked operation);
  }

lines_sure : (language : Language) (source : List ℕ) (whole : Survey) (texts done : List (List ℕ)) (line : ℕ)
    → looked_at language source ≡ done ++ texts → line ≡ length done + 1
    → All (λ (r : Request). IsAsked language source line r.line) (passed_lines 1 (unmarked language) done).layout.requests
    → All (IsSure language source) (told_lines whole line (passed_lines 1 (unmarked language) done) texts)
lines_sure language source whole [] done line all at asked = All-nil (IsSure language source)
lines_sure language source whole (text ∷ texts) done line all at asked =
    let s : Survey = passed_lines 1 (unmarked language) done in
    let after : passed_lines 1 (unmarked language) (done ++ text ∷ [])
    ≡ passed_line line s text = line_after language source done texts text line all at in
    All-append (IsSure language source) (told_line whole line s text) (told_lines whole (line + 1) (passed_line line s text) texts)
    (told_all (IsSure language source) (finding s.layout.language line text (taken_by s.layout (operation_on s.layout text)))
    (λ kind. is_one_of (line_kinds whole line s text) kind && not (follows (doubt whole s text (operation_on s.layout text)) kind))
    (kinds_on s.layout.language text)
    (each_sure language source whole done texts text line all at asked))
    (subst (λ (t : Survey). All (IsSure language source) (told_lines whole (line + 1) t texts)) after
    (lines_sure language source whole texts (done ++ text ∷ []) (line + 1) (lines_after language source done texts text line all at)
    (next_at language source done texts text line all at)
    (subst (λ (t : Survey). All (λ (r : Request). IsAsked language source (line + 1) r.line) t.layout.requests) (sym after)
    (next_asked language source whole done texts text line all at asked))))

pub findings_are_sure : (language : Language) (source : List ℕ) → FindingsAreSure language source
unfolding told
findings_are_sure language source =
    lines_sure language source (settled_survey (passed_lines 1 (unmarked language) (looked_at language source))) (looked_at language source)
    [] 1 refl refl
    (All-nil (λ (r : Request). (r.line < 1) × ((before_line language source r.line).known.location ≡ true)))

-- what holds of each kind that a line tells holds of all that is told of the lines
pub lines_told : (language : Language) (source : List ℕ) (whole : Survey) (P : Finding → Type 0)
    → ((done texts : List (List ℕ)) (text : List ℕ) (line : ℕ) → looked_at language source ≡ done ++ text ∷ texts → line ≡ length done + 1
    → (kind : FaultKind)
    → (is_one_of (line_kinds whole line (passed_lines 1 (unmarked language) done) text) kind
    && not (follows (doubt whole (passed_lines 1 (unmarked language) done) text
    (operation_on (passed_lines 1 (unmarked language) done).layout text)) kind)) ≡ true
    → P (finding (passed_lines 1 (unmarked language) done).layout.language line text
    (taken_by (passed_lines 1 (unmarked language) done).layout (operation_on (passed_lines 1 (unmarked language) done).layout text)) kind))
    → (texts done : List (List ℕ)) (line : ℕ) → looked_at language source ≡ done ++ texts → line ≡ length done + 1
    → All P (told_lines whole line (passed_lines 1 (unmarked language) done) texts)
lines_told language source whole P each [] done line all at = All-nil P
lines_told language source whole P each (text ∷ texts) done line all at =
    let s : Survey = passed_lines 1 (unmarked language) done in
    All-append P (told_line whole line s text) (told_lines whole (line + 1) (passed_line line s text) texts)
    (told_all P (finding s.layout.language line text (taken_by s.layout (operation_on s.layout text)))
    (λ kind. is_one_of (line_kinds whole line s text) kind && not (follows (doubt whole s text (operation_on s.layout text)) kind))
    (kinds_on s.layout.language text)
    (each done texts text line all at))
    (subst (λ (t : Survey). All P (told_lines whole (line + 1) t texts)) (line_after language source done texts text line all at)
    (lines_told language source whole P each texts (done ++ text ∷ []) (line + 1)
    (lines_after language source done texts text line all at) (next_at language source done texts text line all at)))
