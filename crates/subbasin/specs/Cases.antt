-- Document 01, "What the program prints" and "Proved cases": case A's sub-basin, and its first step as rows over the definitions,
-- with net rain in one as document 01 has it and by slices as document 02, No. 3, has it, both with the store law of its No. 6; and what
-- rains yield, No. 5, and of snow, No. 8.
use Rattle.std.specs.Prelude.{ℕ, List, [], ◌∷◌, ◌++◌, replicate, ℤ, pos, neg_ℤ}
use Rattle.common.specs.declared.weather.Weather.{Weather}
use Rattle.common.specs.Cases.{Row, row}
use Rattle.subbasin.specs.declared.record.SubBasin.{SubBasin}
use Rattle.subbasin.specs.Record.{of_words}
use Rattle.subbasin.specs.declared.slices.Sliced.{Sliced}
use Rattle.subbasin.specs.declared.record.Parameters.{Parameters}
use Rattle.subbasin.specs.Snow.{snow}
use Rattle.subbasin.specs.Content.{water}
use Rattle.subbasin.specs.Soil.{tension}
use Rattle.subbasin.specs.Slices.{sliced, unsliced}
use Rattle.subbasin.specs.Step.{Stepped, layers_of, let_go, stepped, stepped_whole}
use Rattle.subbasin.specs.Yields.{yield}

-- area, K, UM, LM, DM, C, BN, IM, SM, XN, KI, KG, CI, CG, then CS, L, REACH, all starts and what is of snow 0
abbrev pub words_a : List ℕ
words_a =
    1 ∷ 65536 ∷ 20000 ∷ 60000 ∷ 40000 ∷ 8192 ∷ 24 ∷ 0 ∷ 20000 ∷ 24 ∷ 16384 ∷ 16384 ∷ 32768 ∷ 32768 ∷ replicate 12 0

abbrev pub case_a : SubBasin
case_a = of_words words_a

-- "rain 135 pan 0", and "rain 0 pan 10"
abbrev pub weather_a : Weather
weather_a = record { rain = 135000; pan = 0; temperature = pos 0 }

abbrev pub weather_3 : Weather
weather_3 = record { rain = 0; pan = 10000; temperature = pos 0 }

-- its net rain, in one and by slices
abbrev pub whole_rain : Sliced
whole_rain = unsliced case_a.fixed (layers_of case_a.contents) 0 135000

abbrev pub sliced_rain : Sliced
sliced_rain = sliced case_a.fixed (layers_of case_a.contents) 0 135000

-- a step's rows, of its net rain and of its answer: "gain .., R .., keep .., RS .., RI .., TI ..", and Q
abbrev pub step_rows : Sliced → Stepped → ℕ → ℕ → ℕ → ℕ → ℕ → ℕ → ℕ → List Row
step_rows sl st gain r kept rs ri ti q =
    row (tension sl.layers) gain
    ∷ row st.r r
    ∷ row sl.kept kept
    ∷ row st.rs rs
    ∷ row st.ri ri
    ∷ row (let_go 32768 0 ri) ti
    ∷ row st.q q
    ∷ []

-- In one, with document 01's figures, "In step 1: gain 105000, R 30000, keep 4444, RS 25556, RI 1111", and document 02's, No. 6: "Under
-- the unsliced rule of the first delivery, case A would print 26668 and 108332 in line 1 and 1110 and 97222 in line 3"
abbrev pub whole_first : Stepped
whole_first = stepped_whole case_a weather_a

abbrev pub whole_third : Stepped
whole_third = stepped_whole whole_first.after weather_3

abbrev pub whole_cases : List Row
whole_cases =
    step_rows whole_rain whole_first 105000 30000 4444 25556 1111 556 26668
    ++ (row (water whole_first.after) 108332 ∷ row whole_third.q 1110 ∷ row (water whole_third.after) 97222 ∷ [])

-- By slices, with the second model's
abbrev pub sliced_cases : List Row
sliced_cases = step_rows sliced_rain (stepped case_a weather_a) 105030 29970 9724 20246 2431 1216 22678

-- Case A's sub-basin, empty, with UM 0, LM and DM 200,000, BN 20 and this IM: by the rounding of Power more rain may yield less, and with
-- IM 32,768 and a pan of 40.5 mm 41 mm of rain yield RB alone; the second model's figures
abbrev pub dipping : ℕ → SubBasin
dipping im = of_words (1 ∷ 65536 ∷ 0 ∷ 200000 ∷ 200000 ∷ 8192 ∷ 20 ∷ im ∷ 20000 ∷ 24 ∷ 16384 ∷ 16384 ∷ 32768 ∷ 32768 ∷ replicate 12 0)

abbrev pub yield_cases : List Row
yield_cases = row (yield (dipping 0) 0 7) 5 ∷ row (yield (dipping 0) 0 8) 4 ∷ row (yield (dipping 32768) 40500 41) 250 ∷ []

-- Snow with a melt factor of 4,000 µm a degree and a threshold of 1 °C: P and SN
abbrev pub hill : Parameters
hill =
    (of_words (1 ∷ 65536 ∷ 20000 ∷ 60000 ∷ 40000 ∷ 8192 ∷ 24 ∷ 0 ∷ 20000 ∷ 24 ∷ 16384 ∷ 16384 ∷ 32768 ∷ 32768 ∷ replicate 9 0 ++ (4000 ∷ 1000 ∷ 0 ∷ []))).fixed

abbrev pub snow_rows : ℕ → ℕ → ℤ → ℕ → ℕ → List Row
snow_rows sn rain t p after = row (snow hill sn rain t).p p ∷ row (snow hill sn rain t).sn after ∷ []

-- below the threshold and at it; 5 short of the mark, and at it; 2.25 degrees above, on much snow and on little; more rain and melt than is
-- taken, and the most rain
abbrev pub snow_cases : List Row
snow_cases =
    snow_rows 70 12000 (pos 999) 0 12070
    ++ snow_rows 70 12000 (pos 1000) 12000 70
    ++ snow_rows 1099511627771 8 (neg_ℤ (pos 3500)) 3 1099511627776
    ++ snow_rows 1099511627776 8 (neg_ℤ (pos 3500)) 8 1099511627776
    ++ snow_rows 30000 12000 (pos 3250) 21000 21000
    ++ snow_rows 5000 12000 (pos 3250) 17000 0
    ++ snow_rows 30000 995000 (pos 3250) 1000000 25000
    ++ snow_rows 30000 1000000 (pos 3250) 1000000 30000

abbrev pub step_cases : List Row
step_cases = whole_cases ++ sliced_cases ++ yield_cases ++ snow_cases
