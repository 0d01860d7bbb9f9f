-- The checks of linking, one after the other.
use mathlib.Core.Bool.{Bool, true, false, ◌||◌, false≢true}
use mathlib.Core.List.{List, []}
use mathlib.Core.Option.{Option, none, some}
use mathlib.Core.Path.{◌≡◌, refl, sym, ap, ◌∙◌}
use native.Mathlib.Omega.{arith}
use Prim.Native.Nat.{ℕ, min}
use lib.Dec.{eqb, ltb}
use lib.ListN.{length}
use Rattle.std.specs.Prelude.{Option as Maybe, Some, None}
use Rattle.linkchecks.specs.Checks as checks
use Rattle.linkchecks.specs.declared.Found as shown
use Rattle.linking.specs.Linking.{checked, Finds, faulty, passed}
use Rattle.linking.specs.declared.Fault.{Fault}
use Rattle.parts.specs.Link.{Linked, refused, Found, rules_of, first_typed, unlike_in, twice_in, past_limit_in, refused_at}
use Rattle.parts.specs.Objects.{Object}
use Rattle.processor.specs.Process.{part_of}
use Rattle.syntax.specs.Parse.{end_of}
use Rattle.syntax.specs.Texts.{Common}

-- the refusal of a fault
abbrev refusal : Fault → Linked
refusal r = refused r.number r.text (record { start = r.start; size = r.len })

-- r tells of what was found
pub record Tells (n : ℕ) (x : shown.Found) (r : Fault) : Type 0 where
  pub number : r.number ≡ n
  pub text : r.text ≡ x.text
  pub start : r.start ≡ x.start
  pub len : r.len ≡ x.len

found-there : {n : ℕ} (o : Option Found) {m : Maybe shown.Found} {x : shown.Found} {r : Fault} → checks.Finds o m → m ≡ Some x → Tells n x r → (other : Linked) → refused_at n o other ≡ refusal r
unfolding checks.Finds refused_at part_of
found-there none f e t other = absurd (false≢true (sym (rw e at f)))
found-there (some f) a e t other = let b = rw e at a in rw (t.number, t.text, t.start, t.len, b.text_is, b.start_is, b.len_is) refl

not_there : (o : Option Found) (m : Maybe shown.Found) → checks.Finds o m → m ≡ None → o ≡ none
unfolding checks.Finds
not_there none m f e = refl
not_there (some f) m a e = absurd (rw e at a)

pub right-number : (os : List Object) {count : ℕ} {t : Bool} → count ≡ length os → t ≡ (eqb count 0 || ltb 16 count) → t ≡ false → (eqb (length os) 0 || ltb 16 (length os)) ≡ false
right-number os k d e = ap (λ (i : ℕ). eqb i 0 || ltb 16 i) (sym k) ∙ sym d ∙ e

module _ (common : List ℕ) (c : Common) (os : List Object) where
  pub wrong-number : {count : ℕ} {t : Bool} {r : Fault} → count ≡ length os → t ≡ (eqb count 0 || ltb 16 count) → t ≡ true → r.number ≡ 9 → r.text ≡ 0 → r.start ≡ length common → r.len ≡ 0 → Finds common c os (Some r)
  unfolding checked part_of end_of
  wrong-number {count} {t} {r} k d e a b f g =
      let z : (eqb (length os) 0 || ltb 16 (length os)) ≡ true = ap (λ (i : ℕ). eqb i 0 || ltb 16 i) (sym k) ∙ sym d ∙ e in
      faulty (λ x. omega (arith, x, a)) (λ other. rw (z, a, b, f, g) refl)

  module _ (number : (eqb (length os) 0 || ltb 16 (length os)) ≡ false) (x₁ : Maybe shown.Found) (typed : checks.Finds (first_typed (rules_of os)) x₁) where
    pub typed-first : {x : shown.Found} {r : Fault} → x₁ ≡ Some x → Tells 5 x r → Finds common c os (Some r)
    unfolding checked
    typed-first e t = faulty (λ z. let y = t.number in omega (arith, z, y)) (λ other. rw number (found-there (first_typed (rules_of os)) typed e t _))

    module _ (off₁ : x₁ ≡ None) (x₂ : Maybe shown.Found) (unlike : checks.Finds (unlike_in c.listed (rules_of os) 1 os) x₂) where
      n₁ : first_typed (rules_of os) ≡ none
      n₁ = not_there (first_typed (rules_of os)) x₁ typed off₁

      pub one-unlike : {x : shown.Found} {r : Fault} → x₂ ≡ Some x → Tells 49 x r → Finds common c os (Some r)
      unfolding checked refused_at
      one-unlike e t = faulty (λ z. let y = t.number in omega (arith, z, y)) (λ other. rw (number, n₁) (found-there (unlike_in c.listed (rules_of os) 1 os) unlike e t _))

      module _ (off₂ : x₂ ≡ None) (x₃ : Maybe shown.Found) (twice : checks.Finds (twice_in [] 1 os) x₃) where
        n₂ : unlike_in c.listed (rules_of os) 1 os ≡ none
        n₂ = not_there (unlike_in c.listed (rules_of os) 1 os) x₂ unlike off₂

        pub one-twice : {x : shown.Found} {r : Fault} → x₃ ≡ Some x → Tells 50 x r → Finds common c os (Some r)
        unfolding checked refused_at
        one-twice e t = faulty (λ z. let y = t.number in omega (arith, z, y)) (λ other. rw (number, n₁, n₂) (found-there (twice_in [] 1 os) twice e t _))

        module _ (off₃ : x₃ ≡ None) (x₄ : Maybe shown.Found) {left : ℕ} (past : checks.Finds (past_limit_in left 1 os) x₄) (room : left ≡ min 128 c.left) where
          n₃ : twice_in [] 1 os ≡ none
          n₃ = not_there (twice_in [] 1 os) x₃ twice off₃

          past' : checks.Finds (past_limit_in (min 128 c.left) 1 os) x₄
          past' = rw room at past

          pub one-past : {x : shown.Found} {r : Fault} → x₄ ≡ Some x → Tells 9 x r → Finds common c os (Some r)
          unfolding checked refused_at
          one-past e t = faulty (λ z. let y = t.number in omega (arith, z, y)) (λ other. rw (number, n₁, n₂, n₃) (found-there (past_limit_in (min 128 c.left) 1 os) past' e t _))

          pub none-past : x₄ ≡ None → Finds common c os None
          none-past e = passed (record { number = number; untyped = n₁; alike = n₂; once = n₃; few = not_there (past_limit_in (min 128 c.left) 1 os) x₄ past' e })
