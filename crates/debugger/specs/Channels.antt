-- The channels that hold something.
use Rattle.std.specs.Prelude.{ℕ, ◌==◌, not, List, ◌++◌, length, filter, codes, decimal}
use Rattle.std.specs.List.{flat_map, range_with_len}
use Rattle.words.specs.Numbers.{correct}
use Rattle.words.specs.Numerals.{octal_text}
use Rattle.space.specs.Cells.{Cells, channel_count, get_channel}
use Rattle.debugger.specs.Replies.{line}

-- the word on a channel
abbrev pub channel_word : Cells → ℕ → ℕ
channel_word cells c = correct (get_channel cells c)

-- its line
abbrev pub channel_line : Cells → ℕ → List ℕ
channel_line cells c = line (codes "CHAN " ++ octal_text 3 c ++ codes " " ++ octal_text 5 (channel_word cells c))

-- the channels whose words are not zero
abbrev pub channels_set : (ℕ → ℕ) → List ℕ
channels_set word = filter (λ c. not (word c == 0)) (range_with_len 0 channel_count)

-- how many lines there are
abbrev pub count_line : ℕ → List ℕ
count_line k = line (codes "COUNT " ++ decimal k)

-- a line for each, and how many there are
unfoldable pub channels_text : Cells → List ℕ
channels_text cells =
    let channels = channels_set (channel_word cells) in flat_map (channel_line cells) channels ++ count_line (length channels)
