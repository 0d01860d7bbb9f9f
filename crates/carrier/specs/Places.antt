-- What a search for a rule or a place gives: one, or none where the definition has 128 rules or place 0.
use Rattle.std.specs.Prelude.{Option, ◌≡◌, ℕ, ◌<◌, IfSome}
use Rattle.std.specs.Option.{unwrap_or}

pub record IsRule (r : Option ℕ) (i : ℕ) : Type 0 where
  pub is : unwrap_or r 128 ≡ i
  pub low : IfSome r (λ k. k < 128)

pub record IsPlace (r : Option ℕ) (l : ℕ) : Type 0 where
  pub is : unwrap_or r 0 ≡ l
  pub some : IfSome r (λ k. 0 < k)
  pub low : IfSome r (λ k. k < 65536)
