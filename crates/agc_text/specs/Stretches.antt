-- What a stretch of bytes ends before.
use Rattle.std.specs.Prelude.{ℕ, ◌==◌, not, Bool}
use Rattle.agc_text.specs.Fields.{is_blank}
use Rattle.agc_text.specs.declared.stretch.End.{End}
use Rattle.agc_text.specs.declared.stretch.End.TheVariants.{Byte, Blank, NoBlank}

-- the stretch ends before such a byte
abbrev pub ends : End → ℕ → Bool
ends (Byte end) = λ byte. byte == end
ends Blank = λ byte. is_blank byte
ends NoBlank = λ byte. not (is_blank byte)
