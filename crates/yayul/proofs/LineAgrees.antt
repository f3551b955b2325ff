-- What stands after a line agrees with the layout after it.
use Rattle.std.proofs.Common.{◌≡◌, ◌≢◌, ℕ, ◌+◌, ◌≤◌, true, false, cond, List, [], ◌∷◌, ◌++◌, map, replicate, Option, Some, None, Result, Ok}
use Rattle.std.proofs.Common.{Err, refl, ap, sym, subst, ◌∙◌, inl, inr}
use Rattle.std.proofs.lemmas.Bool.{cases_Bool}
use Rattle.std.specs.Prelude.{OnOk, ◌/◌}
use Rattle.std.specs.List.{list_any}
use Rattle.std.specs.Option.{option_map_or}
use Rattle.std.specs.Result.{result_err, result_unwrap_or}
use Rattle.rope.specs.Places.{Words, bank_words, stands, with_words}
use Rattle.yayul.specs.Layout.{Request, Layout, LineEffect, width, stands_at, word_place, after_words, lacks_room, extends, is_taken}
use Rattle.yayul.specs.Layout.{is_taken_at, is_erasable, fault_if, standing, label_faults, defined, asked, asked_here, gives, label_alone}
use Rattle.yayul.specs.Layout.{relocated, refused, bare_faults, bank_target, equals, erase, ebank, and_then, location_at, erasable_place}
use Rattle.yayul.specs.Layout.{early_value, statement_effect}
use Rattle.yayul.specs.Words.{request_words, request_faults, extracode_of, extracode_fault}
use Rattle.yayul.specs.Program.{placed_from}
use Rattle.yayul.specs.Language.{BadOperand, Bank, BankFull, BankRange, CodeInErasable, Content, Ebank, Equals, Erase, FaultKind, Fixed, Gives}
use Rattle.yayul.specs.Language.{Label, Location, Malformed, Missing, Named, Nothing, Numeral, Operand, Operation, PlaceTaken, Setloc}
use Rattle.yayul.specs.Language.{Undefined, Unknown, UnknownOperator, Value}
use Rattle.yayul.specs.declared.layout.Layout.{Layout as Held}
use Rattle.yayul.specs.declared.layout.Placing.{Placing}
use Rattle.yayul.specs.Inside.Answers.{tested_faults, held_faults, least_kind, with_requests, layout_of, Keeps, Agrees, TakesWords}
use Rattle.yayul.specs.Inside.Representation.{request_of, bank_target_by, is_undefined, holds_word_at, holds_word}
use Rattle.yayul.specs.Inside.Sound.{meets}
use Rattle.yayul.specs.Inside.Waiting.{lesser_on}
use Rattle.yayul.proofs.LineRequests.{defined_keeps, free_place, here_value, meets_none, room_left, request_for}
use Rattle.yayul.proofs.NameAdded.{holds-named, known-named}
use Rattle.yayul.proofs.HoldsByLine.{holds-next, holds-settled, holds-put_aside, known-settled, known-put_aside}
use Rattle.yayul.proofs.PlainLines.{Lifts, defined_after, defined_more, defined_requests, alone_lifts, relocated_lifts, ebank_lifts}
use Rattle.yayul.proofs.PlainLines.{erase_lifts, equals_lifts, target_by_ends}
use Rattle.yayul.proofs.WordsWhileWaiting.{stands-held}

-- ## Lines that ask for no words
-- names more leave what is held as it is
pub named_keeps : (line : ℕ) (s : Layout) (p : Placing) (names : List (List ℕ × Value)) → Keeps line s p
    → Keeps line (record s { symbols = s.symbols ++ names }) p
named_keeps line s p names keeps =
    record {
      holds = holds-named s.symbols names (map request_of p.waiting.items) line s.requests p.rope p.fault keeps.holds keeps.known;
      known = known-named s.symbols names (map request_of p.waiting.items) s.requests keeps.known;
      ends = keeps.ends;
    }

pub next_keeps : (line : ℕ) (s : Layout) (p : Placing) → Keeps line s p → Keeps (line + 1) s p
next_keeps line s p keeps =
    record {
      holds = holds-next line s.symbols s.requests (map request_of p.waiting.items) p.rope p.fault keeps.holds;
      known = keeps.known;
      ends = keeps.ends;
    }

-- only the symbols and the requests of a layout count
same_keeps : (line : ℕ) (s t : Layout) (p : Placing) → t.symbols ≡ s.symbols → t.requests ≡ s.requests → Keeps line s p → Keeps line t p
same_keeps line s t p symbols requests keeps =
    record {
      holds = rw (symbols, requests) keeps.holds;
      known = rw (symbols, requests) keeps.known;
      ends = rw requests keeps.ends;
    }

-- a line that asks for no words, where what it does is known without the requests before it
agreed : (line : ℕ) (s : Layout) (l after : Held) (p : Placing) (bare e : LineEffect) → Agrees line s l p → Lifts s bare e
    → layout_of after ≡ bare.after → Agrees (line + 1) e.after after p
agreed line s l after p bare e agrees lifts leads =
    record {
      same = leads ∙ lifts.after;
      keeps = same_keeps (line + 1) (record s { symbols = s.symbols ++ lifts.symbols.0 }) e.after p lifts.symbols.1 lifts.requests
          (next_keeps line (record s { symbols = s.symbols ++ lifts.symbols.0 }) p (named_keeps line s p lifts.symbols.0 agrees.keeps));
    }

-- a line that does nothing
pub agreed_idle : (line : ℕ) (s : Layout) (l : Held) (p : Placing) → Agrees line s l p → Agrees (line + 1) s l p
agreed_idle line s l p agrees = record { same = agrees.same; keeps = next_keeps line s p agrees.keeps }

module _ (line : ℕ) (s : Layout) (l after : Held) (p : Placing) (label : Label) (agrees : Agrees line s l p) where
  pub agreed_alone : layout_of after ≡ (label_alone (layout_of l) label).after → Agrees (line + 1) (label_alone s label).after after p
  agreed_alone leads =
      agreed line s l after p (label_alone (with_requests [] s) label) (label_alone s label) agrees (alone_lifts s label)
      (leads ∙ ap (λ t. (label_alone t label).after) agrees.same)

  pub agreed_setloc : (operand : Option Operand) (target : Result Location FaultKind)
      → target ≡ and_then location_at (early_value (layout_of l) operand) → layout_of after ≡ (relocated (layout_of l) label target).after
      → Agrees (line + 1) (relocated s label (and_then location_at (early_value s operand))).after after p
  agreed_setloc operand target is leads =
      let aim : Result Location FaultKind = and_then location_at (early_value s operand) in
      let same : target ≡ aim = is ∙ ap (λ t. and_then location_at (early_value t operand)) agrees.same in
      agreed line s l after p (relocated (with_requests [] s) label aim) (relocated s label aim) agrees (relocated_lifts s label aim)
      (leads ∙ ap (λ t. (relocated t label target).after) agrees.same ∙ ap (λ to. (relocated (with_requests [] s) label to).after) same)

  pub agreed_bank : (taken : BankRange) (number : Numeral) (target : Result Location FaultKind)
      → target ≡ bank_target_by p.ends taken number → layout_of after ≡ (relocated (layout_of l) label target).after
      → Agrees (line + 1) (relocated s label (bank_target s taken number)).after after p
  agreed_bank taken number target is leads =
      let aim : Result Location FaultKind = bank_target s taken number in
      let same : target ≡ aim = is ∙ target_by_ends s p.ends taken number agrees.keeps.ends in
      agreed line s l after p (relocated (with_requests [] s) label aim) (relocated s label aim) agrees (relocated_lifts s label aim)
      (leads ∙ ap (λ t. (relocated t label target).after) agrees.same ∙ ap (λ to. (relocated (with_requests [] s) label to).after) same)

  pub agreed_erase : (count : Numeral) → layout_of after ≡ (erase (layout_of l) label count).after
      → Agrees (line + 1) (erase s label count).after after p
  agreed_erase count leads =
      agreed line s l after p (erase (with_requests [] s) label count) (erase s label count) agrees (erase_lifts s label count)
      (leads ∙ ap (λ t. (erase t label count).after) agrees.same)

  pub agreed_equals : (operand : Option Operand) → layout_of after ≡ (equals line (layout_of l) label operand).after
      → Agrees (line + 1) (equals line s label operand).after after p
  agreed_equals operand leads =
      agreed line s l after p (equals line (with_requests [] s) label operand) (equals line s label operand) agrees
      (equals_lifts s line label operand) (leads ∙ ap (λ t. (equals line t label operand).after) agrees.same)

  pub agreed_ebank : (operand : Option Operand) (place : Result ℕ FaultKind)
      → place ≡ and_then erasable_place (early_value (layout_of l) operand)
      → layout_of after ≡ (record (layout_of l) { eb = result_unwrap_or (and_then (λ n. Ok (n / 0o400)) place) l.eb })
      → Agrees (line + 1) (ebank s label operand).after after p
  agreed_ebank operand place is leads =
      let switched : Result ℕ FaultKind → Layout = λ to. record (layout_of l) { eb = result_unwrap_or (and_then (λ n. Ok (n / 0o400)) to) l.eb } in
      agreed line s l after p (ebank (with_requests [] s) label operand) (ebank s label operand) agrees (ebank_lifts s label operand)
      (leads ∙ ap switched is ∙ ap (λ t. (ebank t label operand).after) agrees.same)

-- ## Lines that give words
undefined_is : (words : Result (List ℕ) FaultKind) → is_undefined words ≡ true → words ≡ Err Undefined
undefined_is (Err Undefined) e = refl
undefined_is _ e = absurd (cc)

faults_are : (table : List (List ℕ × Value)) (r : Request)
    → standing (result_err (request_words table r) ∷ extracode_fault (extracode_of r.content) r.extracode ∷ []) ≡ request_faults table r
unfolding request_faults
faults_are table r = refl

-- a layout that has the words of one request more
abbrev with_request : Layout → Request → Layout
with_request s r = record s { requests = s.requests ++ r ∷ [] }

-- what is held, where the words of a request have been taken
takes_keeps : (line : ℕ) (s : Layout) (p q : Placing) (r : Request) → Keeps line s p → r.line ≡ line → meets s.requests r ≡ false
    → r.offset + width r.content ≤ bank_words
    → TakesWords s.symbols r p q → Keeps (line + 1) (with_request s r) q
takes_keeps line s p q r keeps on apart room takes =
    elim (cases_Bool (is_undefined (request_words s.symbols r))) [
      | inl missing ↦
          let none : request_words s.symbols r ≡ Err Undefined = undefined_is (request_words s.symbols r) missing in
          let words : Words = with_words p.rope (placed_from r.bank r.offset (replicate (width r.content) 0)) in
          let rope : q.rope ≡ words = takes.rope ∙ ap
          (λ ws. with_words p.rope (placed_from r.bank r.offset (result_unwrap_or ws (replicate (width r.content) 0)))) none in
          let later : map request_of q.waiting.items ≡ waiting ++ r ∷ [] = takes.settles.waits
          ∙ ap (λ b. cond b (waiting ++ r ∷ []) waiting) missing in
          let fault : q.fault ≡ p.fault = takes.settles.holds ∙ ap (λ b. cond b p.fault (lesser_on p.fault r.line kind)) missing in
          record {
            holds = rw (rope, later, fault) (holds-put_aside line s.symbols s.requests waiting p.rope p.fault r keeps.holds on apart
                takes.in_banks room);
            known = rw later (known-put_aside line s.symbols s.requests waiting p.rope p.fault r keeps.holds on keeps.known);
            ends = takes.ends s.requests keeps.ends;
          }
      | inr defined_all ↦
          let known : request_words s.symbols r ≢ Err Undefined = λ e.
          (let bad : is_undefined (request_words s.symbols r) ≡ true = ap is_undefined e in cc) in
          let later : map request_of q.waiting.items ≡ waiting = takes.settles.waits
          ∙ ap (λ b. cond b (waiting ++ r ∷ []) waiting) defined_all in
          let fault : q.fault ≡ lesser_on p.fault line (least_kind (request_faults s.symbols r)) =
          takes.settles.holds ∙ ap (λ b. cond b p.fault (lesser_on p.fault r.line kind)) defined_all
          ∙ ap (λ n. lesser_on p.fault n kind) on ∙ ap (λ ks. lesser_on p.fault line (least_kind ks)) (faults_are s.symbols r) in
          record {
            holds = rw (takes.rope, later, fault) (holds-settled line s.symbols s.requests waiting p.rope p.fault r keeps.holds on apart
                takes.in_banks room);
            known = rw later (known-settled line s.symbols s.requests waiting p.rope p.fault r keeps.holds on keeps.known known);
            ends = takes.ends s.requests keeps.ends;
          }
    ]
  where
    waiting : List Request
    waiting = map request_of p.waiting.items

    kind : Option FaultKind
    kind = least_kind (standing (result_err (request_words s.symbols r) ∷ extracode_fault (extracode_of r.content) r.extracode ∷ []))

-- a word stands where a request asks for one
word_taken : (line : ℕ) (s : Layout) (p : Placing) (here : Location) → Keeps line s p → holds_word_at p.rope here ≡ is_taken_at s here
word_taken line s p here keeps = by_place (word_place here)
  where
    by_place : (place : Option (ℕ × ℕ)) → option_map_or (λ at. stands p.rope at.0 at.1) place false
        ≡ option_map_or (λ at. list_any (stands_at at.0 at.1) s.requests) place false
    by_place None = refl
    by_place (Some at) = stands-held line s.symbols s.requests (map request_of p.waiting.items) p.rope p.fault at.0 at.1 keeps.holds

words_taken : (line : ℕ) (s : Layout) (p : Placing) (count : ℕ) → Keeps line s p → holds_word p.rope s.location count ≡ is_taken s count
words_taken line s p count keeps =
    rw (word_taken line s p s.location keeps, word_taken line s p (after_words 1 s.location) keeps) refl

module _ (line : ℕ) (s : Layout) (l : Held) (p : Placing) (label : Label) (content : Content) (agrees : Agrees line s l p) where
  pub tested : tested_faults (layout_of l) p.rope label (width content) ≡ (gives line s label content).faults
  tested =
      ap (λ t. tested_faults t p.rope label (width content)) agrees.same ∙ by_label label
      ∙ ap (λ taken. standing (label_faults s label ++ fault_if (lacks_room (width content) s.location) BankFull ∷ fault_if taken PlaceTaken
      ∷ fault_if (is_erasable s.location) CodeInErasable ∷ [])) (words_taken line s p (width content) agrees.keeps)
    where
      by_label : (given : Label) → tested_faults (with_requests [] s) p.rope given (width content)
          ≡ tested_faults s p.rope given (width content)
      by_label Missing = refl
      by_label Malformed = refl
      by_label (Named name) = refl

  -- what stands after a line that gives words
  agreed_gives : (d after : Held) (q : Placing) (bank offset : ℕ) (r : Request)
      → tested_faults (layout_of l) p.rope label (width content) ≡ []
      → word_place l.location ≡ Some (bank, offset) → layout_of d ≡ defined (layout_of l) label (Fixed bank offset)
      → r ≡ record { line = line; bank = bank; offset = offset; content = content; extracode = d.extracode; eb = d.eb }
      → layout_of after ≡ record (layout_of d) {
        location = after_words (width content) d.location;
        extracode = extends content
            d.extracode;
      }
      → TakesWords d.symbols r p q → Agrees (line + 1) (gives line s label content).after after q
  agreed_gives d after q bank offset r none here names is moved takes =
      let all : Layout = defined s label (Fixed bank offset) in
      let bare : layout_of d ≡ with_requests [] all = names ∙ ap (λ t. defined t label (Fixed bank offset)) agrees.same
      ∙ defined_after s label (Fixed bank offset) in
      let faults : (gives line s label content).faults
      ≡ [] = sym tested ∙ none in
      let place : word_place s.location ≡ Some (bank, offset) = ap (λ (t : Layout). word_place t.location) (sym agrees.same) ∙ here in
      let free = free_place line s label content faults in
      let asks : r ≡ request_for line all content (bank, offset) =
      is ∙ ap (λ (t : Layout). request_for line t content (bank, offset)) bare in
      let apart : meets s.requests (request_for line all content (bank, offset))
      ≡ false = meets_none s (request_for line all content (bank, offset)) place free.0 free.1 in
      let room : offset + width content ≤ bank_words = room_left s.location (width content) bank offset place free.0 in
      let more = defined_more s label (Fixed bank offset) in
      let named : Keeps line all p = same_keeps line (record s { symbols = s.symbols ++ more.0 }) all p more.1
      (defined_requests s label (Fixed bank offset)) (named_keeps line s p more.0 agrees.keeps) in
      let taken : TakesWords all.symbols (request_for line all content (bank, offset)) p q =
      subst (λ (t : Request). TakesWords all.symbols t p q) asks (subst (λ (t : Layout). TakesWords t.symbols r p q) bare takes) in
      let kept : Keeps (line + 1) (with_request all (request_for line all content (bank, offset))) q =
      takes_keeps line all p q (request_for line all content (bank, offset)) named refl
      (ap (λ rs. meets rs (request_for line all content (bank, offset))) (defined_requests s label (Fixed bank offset)) ∙ apart) room
      taken in
      let next : (gives line s label content).after ≡ asked all (request_for line all content (bank, offset)) =
      ap (λ v. asked_here line (defined s label v) content) (here_value s.location bank offset place)
      ∙ ap (λ at. option_map_or (λ q. asked all (request_for line all content q)) at all)
      (ap word_place (defined_keeps s label (Fixed bank offset)).0 ∙ place) in
      record {
        same = moved ∙ ap (λ (t : Layout). record t
            { location = after_words (width content) t.location; extracode = extends content t.extracode }) bare
            ∙ ap (with_requests []) (sym next);
        keeps = rw next (same_keeps (line + 1) (with_request all (request_for line all content (bank, offset)))
            (asked all (request_for line all content (bank, offset))) q refl refl kept);
      }

  -- the same, whatever asking for the words answers
  pub agreed_asks : {E : Type 0} (d after : Held) (q : Placing) (bank offset : ℕ) (r : Request) (result : Result (Unit {0}) E)
      → tested_faults (layout_of l) p.rope label (width content) ≡ []
      → word_place l.location ≡ Some (bank, offset) → layout_of d ≡ defined (layout_of l) label (Fixed bank offset)
      → r ≡ record { line = line; bank = bank; offset = offset; content = content; extracode = d.extracode; eb = d.eb }
      → OnOk result (layout_of after ≡ record (layout_of d)
      { location = after_words (width content) d.location; extracode = extends content d.extracode })
      → OnOk result (TakesWords d.symbols r p q) → OnOk result (Agrees (line + 1) (gives line s label content).after after q)
  agreed_asks d after q bank offset r (Ok x) none here names is moved takes = agreed_gives d after q bank offset r none here names is moved
      takes
  agreed_asks d after q bank offset r (Err e) none here names is moved takes = tt

-- ## The faults of a line
refused_faults : (s : Layout) (label : Label) (kind : FaultKind) → (refused (with_requests [] s) label kind).faults
    ≡ (refused s label kind).faults
refused_faults s Missing kind = refl
refused_faults s Malformed kind = refl
refused_faults s (Named name) kind = refl

-- they are the same by what is held
pub held_agrees : (line : ℕ) (s : Layout) (l : Held) (p : Placing) (label : Label) (operation : Operation) → Agrees line s l p
    → held_faults line l p label operation ≡ (statement_effect line s label operation).faults
held_agrees line s l p label Nothing agrees = ap (λ t. (label_alone t label).faults) agrees.same ∙ (alone_lifts s label).faults
held_agrees line s l p label Unknown agrees =
    ap (λ t. (refused t label UnknownOperator).faults) agrees.same ∙ refused_faults s label UnknownOperator
held_agrees line s l p label (Setloc operand) agrees =
    ap (λ t. (relocated t label (and_then location_at (early_value t operand))).faults) agrees.same
held_agrees line s l p label (Bank taken number) agrees =
    ap (λ target. standing (bare_faults label target)) (target_by_ends s p.ends taken number agrees.keeps.ends)
held_agrees line s l p label (Erase count) agrees = ap (λ t. (erase t label count).faults) agrees.same ∙ (erase_lifts s label count).faults
held_agrees line s l p label (Equals operand) agrees =
    ap (λ t. (equals line t label operand).faults) agrees.same ∙ (equals_lifts s line label operand).faults
held_agrees line s l p label (Ebank operand) agrees = ap (λ t. (ebank t label operand).faults) agrees.same
held_agrees line s l p label (Gives None) agrees = ap (λ t. (refused t label BadOperand).faults) agrees.same
    ∙ refused_faults s label BadOperand
held_agrees line s l p label (Gives (Some content)) agrees = tested line s l p label content agrees
