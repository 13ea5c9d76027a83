-- How much the data of a file and what waits may have together.
use Rattle.std.specs.Prelude.{ℕ, ◌+◌, ◌≤◌, length}
use Rattle.std.specs.List.{concat}
use Rattle.xet_pointer.specs.declared.translator_config.TranslatorConfig.{TranslatorConfig}
use Rattle.xet_upload.specs.Waitings.{IsWithin, Waiting, merged}
use Rattle.xet_upload_parts.specs.declared.cut_thresholds.CutThresholds.{CutThresholds}

-- the thresholds of the settings
abbrev pub thresholds_of : TranslatorConfig → CutThresholds
thresholds_of c = record { bytes = c.xorb_cut_threshold_bytes; chunks = c.xorb_cut_threshold_chunks }

-- how many bytes wait
abbrev pub waiting_bytes : Waiting → ℕ
waiting_bytes w = length (concat w.chunks)

-- both together pass no threshold, and keep the limits of a xorb
pub record FitTogether (c : CutThresholds) (a b : Waiting) : Type 0 where
  pub bytes : waiting_bytes a + waiting_bytes b ≤ c.bytes
  pub chunks : length a.chunks + length b.chunks ≤ c.chunks
  pub within : IsWithin (merged a b).chunks
