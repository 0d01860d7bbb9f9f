-- A taker is exact: it takes what is written so, and nothing else. One law for each way of putting takers together.
use mathlib.Core.Bool.{Bool, true, false}
use mathlib.Core.List.{List, [], ◌∷◌, ◌++◌, append_assoc}
use mathlib.Core.Path.{◌≡◌, refl, sym, ap, ◌∙◌, subst}
use native.Mathlib.Omega.{arith}
use Prim.Native.Nat.{ℕ, zero, suc, ◌-◌, ◌/◌, ◌%◌}
use borrow.Author.Tests.{leb-true, le-leb, eqb-true, eq-eqb}
use lib.Dec.{eqb, leb}
use lib.ListN.{length, take, drop, length-append, take-append-drop}
use lib.Seq.{take-append_seam, drop-append_seam, length-take-le}
use Rattle.base.proofs.Laws.{same_refl, same-eq}
use Rattle.std.specs.Prelude.{if◌then◌else◌}
use Rattle.base.specs.Common.{same}
use Rattle.objects.specs.Take.{Taken, took, missing, Taker, onward, ◌>>=◌, pure, refuse, a_word, some_words, the_word, the_words, times, Counted, counted, if_sized, sized}
use Rattle.objects.specs.View.{all}

pub no-took {ℓ} : {A : Type 0} {B : Type ℓ} {a : A} {ws : List ℕ} → missing ≡ took a ws → B
no-took e = let z : ◌≡◌ {A = ℕ} 0 1 = cc in absurd (omega arith)

-- m takes the words of each value that P holds of, and those alone
pub record Exact {A : Type 0} (m : Taker A) (write : A → List ℕ) (P : A → Type 0) : Type 0 where
  pub back : (a : A) → P a → (k : List ℕ) → m (write a ++ k) ≡ took a k
  pub forth : (ws : List ℕ) (a : A) (k : List ℕ) → m ws ≡ took a k → (ws ≡ write a ++ k) × P a

abbrev pub Any : {A : Type 0} → A → Type 0
Any a = Unit {0}

-- g is what the first taker took of the whole
pub bind : {A C : Type 0} {m : Taker A} {f : A → Taker C} {w : A → List ℕ} {w₁ : C → List ℕ} {P : A → Type 0} → Exact m w P → (g : C → A) (Q : C → Type 0) → ((c : C) → Q c → P (g c))
    → ((a : A) → P a → Exact (f a) w₁ (λ c. (g c ≡ a) × Q c)) → Exact (◌>>=◌ m f) (λ c. w (g c) ++ w₁ c) Q
unfolding onward
bind {A} {C} {m} {f} {w} {w₁} {P} x g Q p h = record {
  back = λ c q k. rw (append_assoc (w (g c)) (w₁ c) k, x.back (g c) (p c q) (w₁ c ++ k)) ((h (g c) (p c q)).back c (refl, q) k);
  forth = λ ws c k e. go ws c k (m ws) refl e;
}
  where
    go : (ws : List ℕ) (c : C) (k : List ℕ) (t : Taken A) → m ws ≡ t → onward t f ≡ took c k → (ws ≡ (w (g c) ++ w₁ c) ++ k) × Q c
    go ws c k (took a rest) d e =
        let y = x.forth ws a rest d in
        let z = (h a y.1).forth rest c k e in
        (y.0 ∙ rw (z.1.0, z.0, append_assoc (w a) (w₁ c) k), z.1.1)
    go ws c k missing d e = no-took e

pub ends : {A C : Type 0} {m : Taker A} {w : A → List ℕ} {P : A → Type 0} → Exact m w P → (f : A → C) (g : C → A) (Q : C → Type 0) → ((a : A) → g (f a) ≡ a) → ((a : A) → P a → Q (f a))
    → ((c : C) → Q c → P (g c)) → ((c : C) → Q c → f (g c) ≡ c) → Exact (◌>>=◌ m (λ a. pure (f a))) (λ c. w (g c)) Q
unfolding onward
ends {A} {C} {m} {w} {P} x f g Q same₁ to from same₂ = record {
  back = λ c q k. rw (x.back (g c) (from c q) k, same₂ c q);
  forth = λ ws c k e. go ws c k (m ws) refl e;
}
  where
    go : (ws : List ℕ) (c : C) (k : List ℕ) (t : Taken A) → m ws ≡ t → onward t (λ a. pure (f a)) ≡ took c k → (ws ≡ w (g c) ++ k) × Q c
    go ws c k (took a rest) d e =
        let y = x.forth ws a rest d in
        let v : f a ≡ c = cc in
        let r : rest ≡ k = cc in
        (y.0 ∙ (rw (← v, same₁ a, r) refl), rw v at (to a y.1))
    go ws c k missing d e = no-took e

pub a_word_lem : Exact a_word (λ x. x ∷ []) Any
unfolding a_word
a_word_lem = record { back = λ a _ k. refl; forth = go }
  where
    go : (ws : List ℕ) (a : ℕ) (k : List ℕ) → a_word ws ≡ took a k → (ws ≡ a ∷ k) × Any a
    go [] a k e = no-took e
    go (x ∷ ws) a k e = (let p : x ≡ a = cc in let q : ws ≡ k = cc in rw (p, q), tt)

pub some_words_lem : (n : ℕ) → Exact (some_words n) (λ t. t) (λ t. length t ≡ n)
unfolding some_words
some_words_lem n = record { back = λ t d k. rw (← d) (front t k); forth = λ ws t k e. go ws t k (leb n (length ws)) refl e }
  where
    front : (t k : List ℕ) → (if leb (length t) (length (t ++ k)) then took (take (length t) (t ++ k)) (drop (length t) (t ++ k)) else missing) ≡ took t k
    front t k =
        let l = length-append t k in
        let b : leb (length t) (length (t ++ k)) ≡ true = le-leb (length t) (length (t ++ k)) (omega (arith, l)) in
        rw (b, take-append_seam t k, drop-append_seam t k)

    go : (ws t k : List ℕ) (b : Bool) → leb n (length ws) ≡ b → (if b then took (take n ws) (drop n ws) else missing) ≡ took t k → (ws ≡ t ++ k) × (length t ≡ n)
    go ws t k true d e =
        let p : take n ws ≡ t = cc in
        let q : drop n ws ≡ k = cc in
        let l = length-take-le n ws (leb-true n (length ws) d) in
        (sym (rw (← p, ← q) (take-append-drop n ws)), rw (← p) l)
    go ws t k false d e = no-took e

pub the_word_lem : (n : ℕ) → Exact (the_word n) (λ _. n ∷ []) Any
unfolding the_word onward a_word refuse
the_word_lem n = record { back = λ t _ k. rw (eq-eqb n n refl); forth = λ ws t k e. go ws t k e }
  where
    one : (x : ℕ) (ws : List ℕ) (t : Unit {0}) (k : List ℕ) (b : Bool) → eqb x n ≡ b → (if b then pure tt else refuse) ws ≡ took t k → (x ∷ ws ≡ n ∷ k) × Any t
    one x ws t k true d e = (let p = eqb-true x n d in let q : ws ≡ k = cc in rw (p, q), tt)
    one x ws t k false d e = no-took e

    go : (ws : List ℕ) (t : Unit {0}) (k : List ℕ) → onward (a_word ws) (λ x. if eqb x n then pure tt else refuse) ≡ took t k → (ws ≡ n ∷ k) × Any t
    go [] t k e = no-took e
    go (x ∷ ws) t k e = one x ws t k (eqb x n) refl e

pub the-words : (xs : List ℕ) → Exact (the_words xs) (λ _. xs) Any
unfolding the_words onward refuse
the-words xs = record { back = λ t _ k. rw ((some_words_lem (length xs)).back xs refl k, same_refl xs); forth = λ ws t k e. go ws t k (some_words (length xs) ws) refl e }
  where
    one : (ys ws : List ℕ) (t : Unit {0}) (k : List ℕ) (b : Bool) → same ys xs ≡ b → (if b then pure tt else refuse) ws ≡ took t k → (ys ++ ws ≡ xs ++ k) × Any t
    one ys ws t k true d e = (let p = same-eq ys xs d in let q : ws ≡ k = cc in rw (p, q), tt)
    one ys ws t k false d e = no-took e

    go : (ws : List ℕ) (t : Unit {0}) (k : List ℕ) (r : Taken (List ℕ)) → some_words (length xs) ws ≡ r → onward r (λ ys. if same ys xs then pure tt else refuse) ≡ took t k → (ws ≡ xs ++ k) × Any t
    go ws t k (took ys rest) d e = let y = (some_words_lem (length xs)).forth ws ys rest d in let z = one ys rest t k (same ys xs) refl e in (y.0 ∙ z.0, tt)
    go ws t k missing d e = no-took e

-- n of them
module _ {A : Type 0} {m : Taker A} {w : A → List ℕ} (x : Exact m w Any) where
  none_of : Exact (times 0 m) (all w) (λ as'. length as' ≡ 0)
  unfolding times all
  none_of = record { back = nil; forth = none-taken }
    where
      nil : (as' : List A) → length as' ≡ 0 → (k : List ℕ) → took [] (all w as' ++ k) ≡ took as' k
      nil [] d k = refl
      nil (a ∷ as') d k = absurd (omega (arith, d))

      none-taken : (ws : List ℕ) (as' : List A) (k : List ℕ) → took [] ws ≡ took as' k → (ws ≡ all w as' ++ k) × (length as' ≡ 0)
      none-taken ws as' k e = let p : ◌≡◌ {A = List A} [] as' = cc in let q : ws ≡ k = cc in (rw (← p, q), rw (← p))

  one_more : (n : ℕ) → Exact (times n m) (all w) (λ as'. length as' ≡ n) → Exact (times (suc n) m) (all w) (λ as'. length as' ≡ suc n)
  unfolding times all onward
  one_more n again = record { back = more; forth = λ ws as' k e. first ws as' k (m ws) refl e }
    where
      more : (as' : List A) → length as' ≡ suc n → (k : List ℕ) → onward (m (all w as' ++ k)) (λ a. ◌>>=◌ (times n m) (λ bs. pure (a ∷ bs))) ≡ took as' k
      more [] d k = absurd (omega (arith, d))
      more (a ∷ as') d k = rw (append_assoc (w a) (all w as') k, x.back a tt (all w as' ++ k), again.back as' (omega (arith, d)) k)

      rest_of : (ws : List ℕ) (a : A) (as' : List A) (k : List ℕ) (t : Taken (List A)) → times n m ws ≡ t → onward t (λ bs. pure (a ∷ bs)) ≡ took as' k → (w a ++ ws ≡ all w as' ++ k) × (length as' ≡ suc n)
      rest_of ws a as' k (took bs rest) d e =
          let y = again.forth ws bs rest d in
          let p : a ∷ bs ≡ as' = cc in
          let q : rest ≡ k = cc in
          let l = y.1 in
          (rw (← p, y.0, q, append_assoc (w a) (all w bs) k), rw (← p) (omega (arith, l)))
      rest_of ws a as' k missing d e = no-took e

      first : (ws : List ℕ) (as' : List A) (k : List ℕ) (t : Taken A) → m ws ≡ t → onward t (λ a. ◌>>=◌ (times n m) (λ bs. pure (a ∷ bs))) ≡ took as' k → (ws ≡ all w as' ++ k) × (length as' ≡ suc n)
      first ws as' k (took a rest) d e = let y = x.forth ws a rest d in let z = rest_of rest a as' k (times n m rest) refl e in (y.0 ∙ z.0, z.1)
      first ws as' k missing d e = no-took e

  pub times-exact : (n : ℕ) → Exact (times n m) (all w) (λ as'. length as' ≡ n)
  times-exact zero = none_of
  times-exact (suc n) = one_more n (times-exact n)

  -- behind its length
  abbrev sized_words : A → List ℕ
  sized_words a = (length (w a) / 65536) ∷ (length (w a) % 65536) ∷ w a

  counted_back : (a : A) (k : List ℕ) → counted m (w a ++ k) ≡ took (record { value = a; count = length (w a) }) k
  unfolding counted onward
  counted_back a k = let l = length-append (w a) k in let e : length (w a ++ k) - length k ≡ length (w a) = omega (arith, l) in rw (x.back a tt k, e)

  counted-forth : (ws : List ℕ) (c : Counted A) (k : List ℕ) → counted m ws ≡ took c k → (ws ≡ w c.value ++ k) × (c.count ≡ length (w c.value))
  unfolding counted onward
  counted-forth ws c k e = go (m ws) refl e
    where
      go : (t : Taken A) → m ws ≡ t → onward t (λ a rest. took (record { value = a; count = length ws - length rest }) rest) ≡ took c k → (ws ≡ w c.value ++ k) × (c.count ≡ length (w c.value))
      go (took a rest) d e =
          let y = (x.forth ws a rest d).0 in
          let p : record { value = a; count = length ws - length rest } ≡ c = cc in
          let q : rest ≡ k = cc in
          let l = length-append (w a) rest in
          let n : length ws - length rest ≡ length (w a) = rw y (omega (arith, l)) in
          subst (λ (c : Counted A). (ws ≡ w c.value ++ k) × (c.count ≡ length (w c.value))) p (y ∙ ap (λ r. w a ++ r) q, n)
      go missing d e = no-took e

  pub sized-exact : Exact (sized m) sized_words Any
  unfolding sized if_sized onward a_word refuse
  sized-exact = record { back = λ a _ k. rw (counted_back a k, eq-eqb (length (w a) / 65536) (length (w a) / 65536) refl, eq-eqb (length (w a) % 65536) (length (w a) % 65536) refl); forth = start }
    where
      low-is : (high low : ℕ) (ws : List ℕ) (c : Counted A) (rest : List ℕ) (a : A) (k : List ℕ) → counted m ws ≡ took c rest → high ≡ c.count / 65536 → (b : Bool) → eqb low (c.count % 65536) ≡ b
          → (if b then pure c.value else refuse) rest ≡ took a k → (high ∷ low ∷ ws ≡ sized_words a ++ k) × Any a
      low-is high low ws c rest a k d h true g e =
          let y = counted-forth ws c rest d in
          let p : c.value ≡ a = cc in
          let q : rest ≡ k = cc in
          let z = eqb-true low (c.count % 65536) g in
          (subst (λ a. high ∷ low ∷ ws ≡ sized_words a ++ k) p (rw (h, z, y.1, ← q) (ap (λ t. (length (w c.value) / 65536) ∷ (length (w c.value) % 65536) ∷ t) y.0)), tt)
      low-is high low ws c rest a k d h false g e = no-took e

      high_is : (high low : ℕ) (ws : List ℕ) (c : Counted A) (rest : List ℕ) (a : A) (k : List ℕ) → counted m ws ≡ took c rest → (b : Bool) → eqb high (c.count / 65536) ≡ b
          → (if b then (if eqb low (c.count % 65536) then pure c.value else refuse) else refuse) rest ≡ took a k → (high ∷ low ∷ ws ≡ sized_words a ++ k) × Any a
      high_is high low ws c rest a k d true g e = low-is high low ws c rest a k d (eqb-true high (c.count / 65536) g) (eqb low (c.count % 65536)) refl e
      high_is high low ws c rest a k d false g e = no-took e

      go : (high low : ℕ) (ws : List ℕ) (a : A) (k : List ℕ) (t : Taken (Counted A)) → counted m ws ≡ t → onward t (if_sized high low) ≡ took a k → (high ∷ low ∷ ws ≡ sized_words a ++ k) × Any a
      go high low ws a k (took c rest) d e = high_is high low ws c rest a k d (eqb high (c.count / 65536)) refl e
      go high low ws a k missing d e = no-took e

      start : (ws : List ℕ) (a : A) (k : List ℕ) → sized m ws ≡ took a k → (ws ≡ sized_words a ++ k) × Any a
      start [] a k e = no-took e
      start (high ∷ []) a k e = no-took e
      start (high ∷ low ∷ ws) a k e = go high low ws a k (counted m ws) refl e
