-- What was looked up, in numbers: a fault's number, or 0 and a value.
use mathlib.Core.Path.{◌≡◌, sym, ◌∙◌}
use Prim.Native.Nat.{ℕ, ◌<◌}
use native.Mathlib.Omega.{arith}
use Rattle.std.specs.Prelude.{Result, Ok, Err, IfOk, MatchResult}
use Rattle.base.specs.Faults.{fault_number}
use Rattle.base.specs.declared.Fault.{Fault}
use Rattle.base.specs.declared.Fault.TheVariants.{NoWord, NotAllowed, Undeclared, Repeated, NotWanted, LabelRepeated, NoCycle, WrongReturn, OverLimit, Contradicts}
use Rattle.names.specs.Known.{Checked, good, wrong}
use Rattle.symbols.specs.Rows.{Looks}
use Rattle.symbols.specs.Rows as rows
use Rattle.words.specs.Words.{Word}

-- no fault has the number 0
pub fault-some : (f : Fault) → fault_number f ≡ 0 → ⊥
fault-some NoWord e = omega (arith, e)
fault-some NotAllowed e = omega (arith, e)
fault-some Undeclared e = omega (arith, e)
fault-some Repeated e = omega (arith, e)
fault-some NotWanted e = omega (arith, e)
fault-some LabelRepeated e = omega (arith, e)
fault-some NoCycle e = omega (arith, e)
fault-some WrongReturn e = omega (arith, e)
fault-some OverLimit e = omega (arith, e)
fault-some Contradicts e = omega (arith, e)

-- a fault's number, or 0 and a value, tells what a check gives
pub data Numbered (fault value : ℕ) : Checked ℕ → Type 0 where
  found : {v : ℕ} → fault ≡ 0 → value ≡ v → Numbered fault value (good v)
  missing : {n : ℕ} {w : Word} → fault ≡ n → (n ≡ 0 → ⊥) → Numbered fault value (wrong n w)

-- an answer in numbers
abbrev pub InNumbers : Result ℕ Fault → ℕ → ℕ → Type 0
InNumbers r fault value = MatchResult r (λ v. (fault ≡ 0) × (value ≡ v)) (λ f. (fault ≡ fault_number f) × (value ≡ 0))

pub numbered : {r : Result ℕ Fault} {m : Checked ℕ} {fault value : ℕ} → Looks r m → InNumbers r fault value → Numbered fault value m
numbered {fault = fault} {value = value} (rows.found {v = v} e) i = go (rw e at i) where
  go : InNumbers (Ok v) fault value → Numbered fault value (good v)
  go j = found j.0 j.1
numbered {fault = fault} {value = value} (rows.missing {n = n} {f = f} {w = w} e q) i = go (rw e at i) where
  go : InNumbers (Err f) fault value → Numbered fault value (wrong n w)
  go j = missing (j.0 ∙ q) (λ z. fault-some f (q ∙ z))

pub numbered-low : (r : Result ℕ Fault) {fault value bound : ℕ} → IfOk r (λ v. v < bound) → InNumbers r fault value → fault ≡ 0 → value < bound
numbered-low (Ok v) l i z = omega (arith, l, i.1)
numbered-low (Err f) l i z = absurd (fault-some f (sym i.0 ∙ z))

pub numbered-small : (r : Result ℕ Fault) (fault : ℕ) {value : ℕ} → IfOk r (λ v. v < 65536) → InNumbers r fault value → value < 65536
numbered-small (Ok v) fault l i = omega (arith, l, i.1)
numbered-small (Err f) fault l i = omega (arith, i.1)
