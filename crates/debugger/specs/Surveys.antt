-- What happened in some steps, bucket by bucket.
use Rattle.std.specs.Prelude.{ℕ, zero, suc, ◌+◌, ◌-◌, ◌/◌, nat_lt, min, Bool, true, false, List, ◌++◌, map, codes, decimal, is_some}
use Rattle.std.specs.Prelude.{if◌then◌else◌}
use Rattle.std.specs.List.{flat_map}
use Rattle.words.specs.Numerals.{octal_text}
use Rattle.commands.specs.declared.subject.Subject.{Subject}
use Rattle.commands.specs.declared.survey.Surveyed.{Surveyed}
use Rattle.cpu.specs.State.{State, Scenario}
use Rattle.cpu.specs.Next.{next}
use Rattle.cpu.specs.Profiles.{account_of}
use Rattle.cpu.specs.declared.account.Account.{Account}
use Rattle.cpu.specs.declared.account.Account.TheVariants as account
use Rattle.cpu.specs.Run.{run}
use Rattle.debugger.specs.Channels.{count_line}
use Rattle.debugger.specs.History.{word_of}
use Rattle.debugger.specs.Replies.{line}
use Rattle.debugger.specs.declared.watch.Watch.{Watch}

-- words of ones' complement in their order: 40000, the least, is the first, and -0 comes right before +0
abbrev pub rank : ℕ → ℕ
rank w = if nat_lt w 0o40000 then w + 0o40000 else w - 0o40000

abbrev pub lesser : ℕ → ℕ → ℕ
lesser v w = if nat_lt (rank w) (rank v) then w else v

abbrev pub greater : ℕ → ℕ → ℕ
greater v w = if nat_lt (rank v) (rank w) then w else v

-- a word that is watched: it was this alone
abbrev pub begun_with : Subject → ℕ → Watch
begun_with subject w = record { subject = subject; least = w; greatest = w; last = w }

-- and then it was this
abbrev pub gone_on_with : Watch → ℕ → Watch
gone_on_with watch w = record watch { least = lesser watch.least w; greatest = greater watch.greatest w; last = w }

-- the least, the greatest and the last that it was after one of m + 1 steps after step low
unfoldable pub watched : Scenario → Subject → ℕ → ℕ → Watch
watched scenario subject low zero = begun_with subject (word_of (run scenario (low + 1)) subject)
watched scenario subject low (suc m) = gone_on_with (watched scenario subject low m) (word_of (run scenario (low + m + 2)) subject)

-- what a step does: it takes an input, it enters an interrupt, it puts something out
abbrev pub is_input : Account → Bool
is_input account.Input = true
is_input _ = false

abbrev pub is_entry : Account → Bool
is_entry account.Entry = true
is_entry _ = false

abbrev pub takes_input : Scenario → State → Bool
takes_input scenario s = is_input (account_of scenario s)

abbrev pub enters_interrupt : Scenario → State → Bool
enters_interrupt scenario s = is_entry (account_of scenario s)

abbrev pub puts_out : Scenario → State → Bool
puts_out scenario s = is_some (next scenario s).1

-- how many of m steps after step low do
unfoldable pub count_of : (State → Bool) → Scenario → ℕ → ℕ → ℕ
count_of does scenario low zero = 0
count_of does scenario low (suc m) = count_of does scenario low m + (if does (run scenario (low + m)) then 1 else 0)

-- what happened in the steps of a bucket: the cycles after its last, how many entered interrupts, took inputs and put something
-- out, and the words that are watched
pub record Bucket : Type 0 where
  pub cycles : ℕ
  pub entries : ℕ
  pub inputs : ℕ
  pub outputs : ℕ
  pub watches : List Watch

-- of m + 1 steps after step low
abbrev pub bucket : Scenario → List Subject → ℕ → ℕ → Bucket
bucket scenario subjects low m =
    record {
      cycles = (run scenario (low + m + 1)).cycles;
      entries = count_of (enters_interrupt scenario) scenario low (suc m);
      inputs = count_of (takes_input scenario) scenario low (suc m);
      outputs = count_of (puts_out scenario) scenario low (suc m);
      watches = map (λ subject. watched scenario subject low m) subjects;
    }

-- the least, the greatest and the last word
abbrev pub watch_text : Watch → List ℕ
watch_text watch = codes " : " ++ octal_text 5 watch.least ++ codes " " ++ octal_text 5 watch.greatest ++ codes " "
    ++ octal_text 5 watch.last

-- the line of a bucket that ends with a step
unfoldable pub bucket_line : ℕ → Bucket → List ℕ
bucket_line step b =
    line
    (codes "BUCKET " ++ decimal step ++ codes " " ++ decimal b.cycles
    ++ codes " ENTRIES " ++ decimal b.entries ++ codes " INPUTS " ++ decimal b.inputs ++ codes " OUTPUTS " ++ decimal b.outputs
    ++ flat_map watch_text b.watches)

-- the lines of at most so many buckets of the steps from after step low up to step last, of width + 1 steps each, but for the last of
-- them, which has those that are left; and how many they are, on from so many
unfoldable pub bucket_lines : Scenario → List Subject → ℕ → ℕ → ℕ → ℕ → ℕ → List ℕ
bucket_lines scenario subjects width last zero done low = count_line done
bucket_lines scenario subjects width last (suc k) done low =
    if nat_lt low last then
    (let m = min width (last - low - 1) in
    bucket_line (low + m + 1) (bucket scenario subjects low m) ++ bucket_lines scenario subjects width last k (done + 1) (low + m + 1))
    else count_line done

-- so many steps in at most so many buckets: each has one step, and so many more
abbrev pub width_of : ℕ → ℕ → ℕ
width_of steps buckets = (steps - 1) / buckets

-- what is told of n steps; nothing is told of a step that was not made yet
abbrev pub survey_text : Scenario → ℕ → Surveyed → List ℕ
survey_text scenario n asked =
    if nat_lt n asked.last then line (codes "E41 NOT YET")
    else bucket_lines scenario asked.subjects (width_of (asked.last - (asked.first - 1)) asked.buckets) asked.last asked.buckets 0
    (asked.first - 1)
