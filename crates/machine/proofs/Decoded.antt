-- A property of the instruction at a location, by the words that stand there.
use mathlib.Core.Bool.{Bool, true, false}
use mathlib.Core.List.{List}
use mathlib.Core.Option.{Option, none, some}
use mathlib.Core.Path.{◌≡◌, refl}
use Prim.Native.Nat.{ℕ, suc, ◌<◌, ◌≤◌}
use lib.Dec.{eqb, ltb}
use borrow.Author.Tests.{eqb-true, ltb-true, ltb-false}
use Rattle.std.specs.Prelude.{if◌then◌else◌}
use Rattle.events.specs.Events.{output, signal}
use Rattle.machine.specs.Decode.{fetch, Instruction, invalid, jump, input, input_any, write, input_choice, call_rule, return, set_result, choice, end_choice, set_parameter, update, update_with, choose, choose_with, decode_operation, decode_two, decode_one, decode_word, decode_at, decode}
use Rattle.machine.specs.Lengths.{length_of}
use native.Mathlib.Omega.{arith}

module _ (P : Instruction → Type 0) where
  pick : (b : Bool) {x y : Instruction} → (b ≡ true → P x) → (b ≡ false → P y) → P (if b then x else y)
  pick true f g = f refl
  pick false f g = g refl

  equal : (i k : ℕ) {x y : Instruction} → (i ≡ k → P x) → P y → P (if eqb i k then x else y)
  equal i k f g = pick (eqb i k) (λ t. f (eqb-true i k t)) (λ _. g)

  pub of-operation : (i : ℕ) → (i < 512 → P (update i)) → (i < 768 → P (update_with i)) → (768 ≤ i → P (choose i)) → (768 ≤ i → P (choose_with i)) → P (decode_operation i)
  unfolding decode_operation
  of-operation i a b c d =
      pick (ltb i 512) (λ t. a (ltb-true i 512 t)) (λ _.
      pick (ltb i 768) (λ t. b (ltb-true i 768 t)) (λ f.
      pick (ltb i 1024) (λ _. c (ltb-false i 768 f)) (λ _. d (ltb-false i 768 f))))

  pub of_one : (i : ℕ) → (i ≡ 4 → P input_any) → (i ≡ 9 → P return) → (i ≡ 12 → P end_choice) → P (decode_operation i) → P (decode_one i)
  unfolding decode_one
  of_one i a b c d = equal i 4 a (equal i 9 b (equal i 12 c d))

  pub of_two : (l i x : ℕ) → (i ≡ 1 → (m : ℕ) → P (jump m)) → (i ≡ 2 → (m : ℕ) → P (jump m)) → (i ≡ 3 → P (input x)) → (i ≡ 5 → P (write (output x))) → (i ≡ 6 → P (write (signal x)))
      → (i ≡ 7 → (c : ℕ) → l < c → P (input_choice c)) → (i ≡ 8 → P (call_rule x)) → (i ≡ 10 → P (set_result x)) → (i ≡ 11 → (c : ℕ) → l < c → P (choice c)) → P (set_parameter x) → P (decode_two l i x)
  unfolding decode_two
  of_two l i x a b c d e f g h j k =
      equal i 1 (λ q. a q _) (equal i 2 (λ q. b q _) (equal i 3 c (equal i 5 d (equal i 6 e (equal i 7 (λ q. f q _ (omega arith)) (equal i 8 g (equal i 10 h (equal i 11 (λ q. j q _ (omega arith)) k))))))))

  pub of_word : (l i : ℕ) (o : Option ℕ) → P invalid → (length_of i ≡ 1 → P (decode_one i)) → ((x : ℕ) → o ≡ some x → P (decode_two l i x)) → P (decode_word l i o)
  unfolding decode_word
  of_word l i none z f g = equal (length_of i) 1 f z
  of_word l i (some x) z f g = equal (length_of i) 1 f (equal (length_of i) 2 (λ _. g x refl) z)

  pub of-decode : (T : List ℕ) (l : ℕ) → P invalid → ((i : ℕ) → fetch T l ≡ some i → P (decode_one i)) → ((i x : ℕ) → fetch T l ≡ some i → fetch T (suc l) ≡ some x → P (decode_two l i x)) → P (decode T l)
  unfolding decode decode_at
  of-decode T l z f g = go (fetch T l) refl
    where
      go : (o : Option ℕ) → fetch T l ≡ o → P (decode_at l o (fetch T (suc l)))
      go none e = z
      go (some i) e = of_word l i (fetch T (suc l)) z (λ _. f i e) (λ x h. g i x e h)
