-- Document 01, "One sub-basin, one step": evapotranspiration, runoff and the three layers of tension water.
use Rattle.std.specs.Prelude.{ℕ, ◌+◌, ◌-◌, ◌*◌, ◌/◌, min, cond, leb, ltb}
use Rattle.common.specs.Shares.{one}
use Rattle.curve.specs.Capacity.{rise}
use Rattle.subbasin.specs.declared.record.Parameters.{Parameters}
use Rattle.subbasin.specs.declared.soil.Layers.{Layers}
use Rattle.subbasin.specs.declared.soil.Evaporated.{Evaporated}
use Rattle.subbasin.specs.declared.soil.Runoff.{Runoff}

-- W = WU + WL + WD
abbrev pub tension : Layers → ℕ
tension w = w.wu + w.wl + w.wd

-- "EP = K × pan / 65,536"
unfoldable pub ep : Parameters → ℕ → ℕ
ep p pan = p.k * pan / one

-- "P ≥ EP: EU = EP, EL = ED = 0, PE = P − EP"
abbrev pub enough : Layers → ℕ → ℕ → Evaporated
enough w rain e = record { eu = e; el = 0; ed = 0; pe = rain - e; layers = w }

-- "WU falls by u, WL by EL, WD by ED", and PE = 0
abbrev pub fallen : Layers → ℕ → ℕ → ℕ → ℕ → Evaporated
fallen w rain u el ed =
    record {
      eu = rain + u;
      el = el;
      ed = ed;
      pe = 0;
      layers = record { wu = w.wu - u; wl = w.wl - el; wd = w.wd - ed };
    }

-- "If WL × 65,536 ≥ C × LM: EL = min(WL, d × WL / LM), ED = 0. Otherwise q = C × d / 65,536, EL = min(WL, q), ED = min(WD, q − EL)"
unfoldable pub deeper : Parameters → Layers → ℕ → ℕ → ℕ → Evaporated
deeper p w rain u d =
    cond (leb (p.c * p.lm) (w.wl * one))
    (fallen w rain u (min w.wl (d * w.wl / p.lm)) 0)
    (fallen w rain u (min w.wl (p.c * d / one)) (min w.wd (p.c * d / one - min w.wl (p.c * d / one))))

-- "P < EP: PE = 0. D = EP − P, u = min(WU, D), EU = P + u, d = D − u"
unfoldable pub evaporated : Parameters → Layers → ℕ → ℕ → Evaporated
evaporated p w rain e =
    cond (leb e rain)
    (enough w rain e)
    (deeper p w rain (min w.wu (e - rain)) (e - rain - min w.wu (e - rain)))

-- "c = WM = UM + LM + DM"
abbrev pub wm : Parameters → ℕ
wm p = p.um + p.lm + p.dm

-- "m = MM = WM × BN × 65,536 / (16 × (65,536 − IM)), one division"
unfoldable pub mm : Parameters → ℕ
mm p = wm p * p.bn * one / (16 * (one - p.im))

-- "RB = IM × PE / 65,536"
unfoldable pub rb : Parameters → ℕ → ℕ
rb p pe = p.im * pe / one

-- "gain = min(X, Held(min(Ordinate(W) + PE, MM)) − W)"
unfoldable pub gain : Parameters → ℕ → ℕ → ℕ → ℕ
gain p w pe x = min x (rise (wm p) (mm p) p.bn w pe - w)

-- "The gain fills WU to UM, then WL to LM, then WD"
unfoldable pub refilled : Parameters → Layers → ℕ → Layers
refilled p w gained =
    record {
      wu = w.wu + min gained (p.um - w.wu);
      wl = w.wl + min (gained - min gained (p.um - w.wu)) (p.lm - w.wl);
      wd = w.wd + (gained - min gained (p.um - w.wu) - min (gained - min gained (p.um - w.wu)) (p.lm - w.wl));
    }

-- "PE > 0: X = PE − RB, R = X − gain. If PE = 0, RB = R = 0"
unfoldable pub runoff : Parameters → Layers → ℕ → Runoff
runoff p w pe =
    cond (ltb 0 pe)
    (record {
      rb = rb p pe;
      r = pe - rb p pe - gain p (tension w) pe (pe - rb p pe);
      layers = refilled p w (gain p (tension w) pe (pe - rb p pe));
    })
    (record { rb = 0; r = 0; layers = w })
