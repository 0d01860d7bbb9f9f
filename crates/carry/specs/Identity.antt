-- "Carrying to an identical program gives an equal walk if all its places lie in rules." The statement.
use Rattle.std.specs.Prelude.{Bool, List, [], ◌∷◌, ◌≡◌, ℕ}
use Rattle.std.proofs.Math.Option.{some}
use Rattle.carry.specs.Carry.{Place, place_of, source_of}
use Rattle.carry.specs.Texts.{goes, carry_texts, Outcome, carry_bytes}
use Rattle.machine.specs.Form.{walk_of}
use Rattle.machine.specs.Walk.{Walk}
use Rattle.processor.specs.Process.{accepted, process}
use Rattle.program.specs.Program.{Rule}

-- a place lies in a rule
pub record InRule (prog : List Rule) (l : ℕ) : Type 0 where
  pub at : Place
  pub is : place_of prog l ≡ some at

pub data InRules (prog : List Rule) : List ℕ → Type 0 where
  in_nil : InRules prog []
  in_cons : {l : ℕ} {ls : List ℕ} → InRule prog l → InRules prog ls → InRules prog (l ∷ ls)

-- all places of the walk lie in rules of the text
pub record Lies (text : List ℕ) (w : Walk) : Type 0 where
  pub location : InRule (source_of text).rules w.location
  pub returns : InRules (source_of text).rules w.returns

abbrev pub IdentityWalks : Type 0
IdentityWalks =
    (text words : List ℕ) (verdict : Bool) → process text 4096 ≡ accepted words verdict → (w : Walk) → Lies text w → carry_texts text text w ≡ goes w

-- over bytes: the number is 0, and every byte of the walk is what it was
pub record Unmoved (walk : List ℕ) (o : Outcome) : Type 0 where
  pub number : o.number ≡ 0
  pub bytes : o.walk ≡ walk

abbrev pub IdentityBytes : Type 0
IdentityBytes =
    (text words : List ℕ) (verdict : Bool) → process text 4096 ≡ accepted words verdict → (walk : List ℕ) (w : Walk) → walk_of walk ≡ some w → Lies text w
    → Unmoved walk (carry_bytes text text walk)
