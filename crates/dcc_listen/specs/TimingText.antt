-- The text of the statistics of a list of half-bits. Each line has a name, and then a number, two
-- numbers or the word `none`.
use Rattle.std.specs.Prelude.{ℕ, ◌+◌, ◌/◌, ◌%◌, ◌++◌, List, [], ◌∷◌, Option, None, Some, length, sum, map, codes}
use Rattle.std.specs.Fmt.{decimal}
use Rattle.std.specs.List.{filter, count_by}
use Rattle.dcc_wire.specs.declared.seen.Seen.{Seen}
use Rattle.dcc_wire.specs.Framing.{seen}
use Rattle.dcc_timing.specs.declared.tally.Mean.{Mean}
use Rattle.dcc_timing.specs.Numbers.{least, most}
use Rattle.dcc_timing.specs.Tallies.{mean}
use Rattle.dcc_timing.specs.Classes.{is_below, is_half_of_one, is_between, is_half_of_zero, is_above}
use Rattle.dcc_timing.specs.Outcomes.{is_packet, is_refused}
use Rattle.dcc_timing.specs.PacketBits.{packet_bits_in, difference, is_one_pair, is_zero_pair, bit_duration}
use Rattle.dcc_timing.specs.Gaps.{longest_gap}
use Rattle.dcc_lost.specs.Preambles.{lost_count, shortest_preamble}

-- the decimal digits of `number`, or the word `none` if there is no number
abbrev pub number_or_none : Option ℕ → List ℕ
number_or_none None = codes "none"
number_or_none (Some number) = decimal number

-- the text of `mean` in microseconds, with two digits of hundredths. If there is no mean, the text
-- is the word `none`.
abbrev pub mean_or_none : Option Mean → List ℕ
mean_or_none None = codes "none"
mean_or_none (Some mean) =
    decimal mean.whole ++ codes "." ++ (48 + mean.hundredths / 10) ∷ (48 + mean.hundredths % 10) ∷ []

-- the line of a statistic. The line has the name `name` of the list, the name `word` of the
-- statistic, and `number`.
unfoldable pub figure_line : List ℕ → List ℕ → Option ℕ → List ℕ
figure_line name word number = name ++ word ++ number_or_none number ++ codes "\n"

unfoldable pub mean_line : List ℕ → Option Mean → List ℕ
mean_line name mean = name ++ codes " mean " ++ mean_or_none mean ++ codes "\n"

-- the four lines with the name `name` for the list `numbers`: its count, its least number, its
-- greatest number and its mean
unfoldable pub tally_lines : List ℕ → List ℕ → List ℕ
tally_lines name numbers =
    figure_line name (codes " count ") (Some (length numbers))
    ++ figure_line name (codes " least ") (least numbers)
    ++ figure_line name (codes " most ") (most numbers)
    ++ mean_line name (mean numbers)

-- the lines of the list `outcomes`: the number of its packets, and the number of its refusals with
-- each error code
unfoldable pub outcome_lines : List (ℕ × Seen) → List ℕ
outcome_lines outcomes =
    figure_line (codes "packets") (codes " ") (Some (count_by is_packet outcomes))
    ++ figure_line (codes "refused") (codes " H1 ") (Some (count_by (is_refused 1) outcomes))
    ++ figure_line (codes "refused") (codes " H2 ") (Some (count_by (is_refused 2) outcomes))
    ++ figure_line (codes "refused") (codes " H3 ") (Some (count_by (is_refused 3) outcomes))
    ++ figure_line (codes "refused") (codes " H4 ") (Some (count_by (is_refused 4) outcomes))
    ++ figure_line (codes "refused") (codes " H5 ") (Some (count_by (is_refused 5) outcomes))

-- the lines of ones and zeros. The lines have the statistics of the half-bits `halves`, the
-- statistics of the bits `bits` of packets, and the limits of NMRA S-9.1.
unfoldable pub bit_lines : List ℕ → List (ℕ × ℕ) → List ℕ
bit_lines halves bits =
    tally_lines (codes "ones") (filter is_half_of_one halves) ++ codes "ones station 55 61\nones decoder 52 64\n"
    ++ tally_lines (codes "differences") (map difference (filter is_one_pair bits))
    ++ codes "differences station 3\ndifferences decoder 6\n"
    ++ tally_lines (codes "zeros") (filter is_half_of_zero halves)
    ++ codes "zeros station 95 9900\nzeros decoder 90 10000\n"
    ++ tally_lines (codes "sums") (map bit_duration (filter is_zero_pair bits)) ++ codes "sums station 12000\n"

-- the lines of those half-bits in `halves` that are neither half of a one nor half of a zero
unfoldable pub other_lines : List ℕ → List ℕ
other_lines halves =
    tally_lines (codes "below") (filter is_below halves)
    ++ tally_lines (codes "between") (filter is_between halves)
    ++ tally_lines (codes "above") (filter is_above halves)

-- the text of all statistics of the half-bits `halves`
unfoldable pub timing_text : List ℕ → List ℕ
timing_text halves =
    figure_line (codes "halves") (codes " ") (Some (length halves))
    ++ figure_line (codes "time") (codes " ") (Some (sum halves))
    ++ outcome_lines (seen halves)
    ++ figure_line (codes "lost") (codes " ") (Some (lost_count halves))
    ++ figure_line (codes "preamble") (codes " least ") (shortest_preamble halves)
    ++ figure_line (codes "gap") (codes " most ") (longest_gap halves)
    ++ bit_lines halves (packet_bits_in halves)
    ++ other_lines halves
