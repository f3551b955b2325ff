-- What is answered of a routine, as text.
use Rattle.std.specs.Prelude.{ℕ, ◌%◌, List, [], ◌∷◌, ◌++◌, codes, decimal}
use Rattle.words.specs.Numerals.{octal_text}
use Rattle.space.specs.declared.place.Linear.TheVariants.{Fixed}
use Rattle.yayul.specs.Listing.{place_text}
use Rattle.bound.specs.declared.counted.Counted.{Counted}
use Rattle.bound.specs.declared.finding.Answer.{Answer}
use Rattle.bound.specs.declared.finding.Answer.TheVariants.{Most, Refused}
use Rattle.bound.specs.declared.site.Site.{Site}
use Rattle.bound.specs.declared.turn.Why.{Why}
use Rattle.bound.specs.declared.turn.Why.TheVariants.{Indexed, Leaves, Steers, Resumes, Changed, Recursive, Unbounded, ManyWords}
use Rattle.bound.specs.declared.turn.Why.TheVariants.{ManyRoutines}
use Rattle.bound.specs.declared.turn.Why.TheVariants.{ManyCycles}

abbrev pub why_text : Why → List ℕ
why_text Indexed = codes " JUMPS UNDER INDEX"
why_text Leaves = codes " LEADS TO NO KNOWN WORD"
why_text Steers = codes " WRITES Z OR ITS OWN BANK"
why_text Resumes = codes " RESUMES"
why_text Changed = codes " RETURNS BY Q, WHICH WAS CHANGED"
why_text Recursive = codes " CALLS A ROUTINE IN PROGRESS"
why_text Unbounded = codes " IS IN A LOOP WITHOUT A BOUND"
why_text ManyWords = codes " HAS MORE THAN 8192 WORDS"
why_text ManyRoutines = codes " USES 2048 ROUTINES OR MORE"
why_text ManyCycles = codes " HAS TOO MANY CYCLES TO COUNT"

abbrev pub most_text : ℕ → List ℕ
most_text most = codes "AT MOST " ++ decimal most ++ codes " CYCLES\n"

abbrev pub refused_text : Site → Why → List ℕ
refused_text p why = codes "NO BOUND: " ++ place_text (Fixed p.bank (p.address % 0o2000)) ++ why_text why ++ codes "\n"

-- a counted loop: its head, its cell and its constant
abbrev pub loop_text : Counted → List ℕ
loop_text c =
    place_text (Fixed c.bank (c.head % 0o2000)) ++ codes " COUNTED BY CCS " ++ octal_text 4 c.cell ++ codes " FROM " ++ decimal c.from
    ++ codes "\n"

abbrev pub loops_text : List Counted → List ℕ
loops_text [] = []
loops_text (c ∷ cs) = loop_text c ++ loops_text cs

abbrev pub answer_text : Answer → List Counted → List ℕ
answer_text (Most most) loops = most_text most ++ loops_text loops
answer_text (Refused p why) loops = refused_text p why
