-- Lines that are given by their words: what computes with them opens the definitions by this one name. Assumes nothing.
use Rattle.std.specs.Prelude.{⊤}
use lib.Ieee.{of_bits}
use Rattle.common.specs.Loops.{filled, sum_of, every, first_bad}
use Rattle.forcing.specs.Depth.{numerator, denominator, nearest, depth_of, from_zero_to, above_limit, number_of, answer_by, depth_call}
use Rattle.forcing.specs.Temperature.{whole, in_range, is_temperature, nearest_whole, thousandths, temperature_number, temperature_call}
use Rattle.forcing.specs.List.{weather_of, line_inside, is_inside, line_number, judged_lines, reading}
use Rattle.forcing.specs.File.{line_of}

unfoldable pub lines_on_words : ⊤
unfolding of_bits numerator denominator nearest depth_of from_zero_to above_limit number_of answer_by depth_call
    whole in_range is_temperature nearest_whole thousandths temperature_number temperature_call
    filled sum_of every first_bad weather_of line_inside is_inside line_number judged_lines reading line_of
lines_on_words = tt
