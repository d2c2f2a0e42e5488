-- A sub-basin's record and its limits: document 01, "The basin file" and 9 and 10 of "Who sent it", with document 02, No. 8.
use Rattle.std.specs.Prelude.{ℕ, ◌-◌, ◌^◌, Bool, ◌&&◌, List, [], ◌∷◌, leb, eqb, get_or, replicate}
use Rattle.common.specs.Shares.{one}
use Rattle.common.specs.Limits.{Word, word, values, words_in, first_out}
use Rattle.common.specs.Amounts.{all_up_to}
use Rattle.subbasin.specs.declared.record.SubBasin.{SubBasin}
use Rattle.subbasin.specs.declared.record.Sender.{Sender}
use Rattle.subbasin.specs.declared.record.Sender.TheVariants.{Author, Host}
use Rattle.subbasin.specs.Lag.{line_in}

-- "the length rule counts 26 words"
abbrev pub word_count : ℕ
word_count = 26

-- "VI and VG each 0..1,000,000" in the file, "VI and VG have 0..2^33 here instead" in a basin handed in
abbrev pub most_slow : Sender → ℕ
most_slow Author = 1000000
most_slow Host = 2 ^ 33

-- "SN holds at most 2^40"
abbrev pub snow_mark : ℕ
snow_mark = 2 ^ 40

-- "starting snow SN 0..3,000,000 µm" in the file; "For a basin handed in, 9 takes 0..2^40 as the range of SN in place of the file's"
abbrev pub most_snow : Sender → ℕ
most_snow Author = 3000000
most_snow Host = snow_mark

-- The words in the file's order, each with its range. REACH has the range 0..M.
abbrev pub words : ℕ → Sender → SubBasin → List Word
words m v s =
    word 1 s.fixed.area 5000
    ∷ word 0 s.fixed.k 131072
    ∷ word 0 s.fixed.um 100000
    ∷ word 1 s.fixed.lm 200000
    ∷ word 0 s.fixed.dm 200000
    ∷ word 0 s.fixed.c 65535
    ∷ word 16 s.fixed.bn 32
    ∷ word 0 s.fixed.im 32768
    ∷ word 1 s.fixed.sm 100000
    ∷ word 16 s.fixed.xn 48
    ∷ word 0 s.fixed.ki one
    ∷ word 0 s.fixed.kg (one - s.fixed.ki)
    ∷ word 0 s.fixed.ci 65535
    ∷ word 0 s.fixed.cg 65535
    ∷ word 0 s.fixed.cs 65535
    ∷ word 0 s.line.lag 15
    ∷ word 0 s.fixed.reach m
    ∷ word 0 s.contents.wu s.fixed.um
    ∷ word 0 s.contents.wl s.fixed.lm
    ∷ word 0 s.contents.wd s.fixed.dm
    ∷ word 0 s.contents.g s.fixed.sm
    ∷ word 0 s.contents.vi (most_slow v)
    ∷ word 0 s.contents.vg (most_slow v)
    ∷ word 0 s.fixed.f 20000
    ∷ word 0 s.fixed.threshold 10000
    ∷ word 0 s.contents.sn (most_snow v)
    ∷ []

-- the number of the first word outside its range, counted from 0, and the word count where none is
unfoldable pub first_outside : ℕ → Sender → SubBasin → ℕ
first_outside m v s = first_out (words m v s)

-- the words alone
abbrev pub words_of : SubBasin → List ℕ
words_of s = values (words 0 Host s)

-- the record of so many words: "Lag lines, CS stores and reaches start empty"
abbrev pub of_words : List ℕ → SubBasin
of_words v =
    record {
      fixed =
          record {
            area = get_or v 0 0;
            k = get_or v 1 0;
            um = get_or v 2 0;
            lm = get_or v 3 0;
            dm = get_or v 4 0;
            c = get_or v 5 0;
            bn = get_or v 6 0;
            im = get_or v 7 0;
            sm = get_or v 8 0;
            xn = get_or v 9 0;
            ki = get_or v 10 0;
            kg = get_or v 11 0;
            ci = get_or v 12 0;
            cg = get_or v 13 0;
            cs = get_or v 14 0;
            reach = get_or v 16 0;
            f = get_or v 23 0;
            threshold = get_or v 24 0;
          };
      contents =
          record {
            wu = get_or v 17 0;
            wl = get_or v 18 0;
            wd = get_or v 19 0;
            g = get_or v 20 0;
            vi = get_or v 21 0;
            vg = get_or v 22 0;
            sn = get_or v 25 0;
          };
      line = record { lag = get_or v 15 0; waiting = replicate 15 0 };
      channel = 0;
    }

-- "a CS store or reach above 2^56"
abbrev pub most_stored : ℕ
most_stored = 2 ^ 56

-- a record that 9 allows, with REACH up to m
unfoldable pub record_in : ℕ → SubBasin → Bool
record_in m s = words_in (words m Host s) && line_in s.line && leb s.channel most_stored

-- "an unused record not zero": all zeros, as a record and as a test
abbrev pub blank_sub : SubBasin
blank_sub = of_words (replicate word_count 0)

unfoldable pub is_blank : SubBasin → Bool
is_blank s = all_up_to 0 s.line.waiting && eqb s.channel 0 && all_up_to 0 (words_of s)
