-- Laws of the scan: what each arm and each turn of a loop gives.
use Prim.Native.Nat.{ℕ, zero, suc, ◌+◌, ◌-◌, ◌*◌, ◌<◌, ◌≤◌}
use mathlib.Core.Path.{◌≡◌, refl, sym, ap, ◌∙◌}
use mathlib.Core.Bool.{Bool, true, false, cond, ◌||◌, ◌&&◌, not, or-false, or_assoc, and-true}
use mathlib.Core.List.{List, [], ◌∷◌, ◌++◌}
use native.Mathlib.Omega.{arith}
use native.Mathlib.Numerals.{add-one}
use lib.Dec.{eqb, leb, ltb}
use lib.ListN.{length, take, drop, get_or, length-drop}
use lib.Seq.{drop-cons, get_or-drop, length-take-le}
use borrow.Author.Tests.{lt-ltb, le-ltb, le-leb, ne_eqb, leb-true, leb-false, eqb-false}
use Rattle.base.proofs.Laws.{neither}
use Rattle.std.specs.Prelude.{if◌then◌else◌}
use Rattle.base.specs.Common.{member as listed}
use Rattle.base.specs.Tree.{plain, absent, otherwise}
use Rattle.program.specs.Program.{Plain, match, any, emit, error, exit, call, back, give, update, update_with, Act, Acts, Alts, Other}
use Rattle.finishing.specs.Test.{Goal, end, leave, return, gives, calls, Known, is_end, is_leave, is_return, is_give, is_call, is_far, quiet_plain, quiet, quiets, quiet_some, quiet_named, loop, loops, loops_some, loops_other}
use Rattle.finishing.specs.Finishing.{named}
use Rattle.finishing.proofs.Exact.{below-same}
use Rattle.cells.specs.Cells.{plain_cells}
use Rattle.verdict.specs.Lies.{RangePlain, labelled, Lies, lies_plain, lies_cycle, lies_token, lies_rule, lies_operation, lies_operation_with, LiesAll, lies_done, lies_next, LiesRest, lies_absent, lies_absent_token, lies_otherwise, lies_alternative}
use Rattle.verdict.specs.Told.{member, some_in, known_in, Tells, Simple, Giving, Then, Either, Cycled, Calling, Placed, past_cell, takes, heads, LeafTold, ActTold, ActsTold, AltsTold, ValuedTold, among, by_value}
use Rattle.verdict.specs.declared.Rules.{Rules}
use Rattle.verdict.specs.declared.Ways.{Ways}

-- the goals that the words tell of: vs are the values asked for
pub data Small (vs : List ℕ) : Goal → Type 0 where
  small-end : Small vs end
  small-leave : Small vs leave
  small-return : Small vs return
  small-call : {r : ℕ} → r < 128 → Small vs (calls r)
  small-give : (j : ℕ) → j < length vs → j < 128 → Small vs (gives (get_or vs j 0))

-- the way to such a goal
unfoldable pub has : {vs : List ℕ} {g : Goal} → Ways → Small vs g → Bool
has w small-end = w.end
has w small-leave = w.exit
has w small-return = w.ret
has w (small-call {r = r} h) = member w.calls r
has w (small-give j h b) = member w.given j

listed-both : (v : ℕ) (a b : List ℕ) → listed v (a ++ b) ≡ (listed v a || listed v b)
listed-both v [] b = refl
listed-both v (x ∷ a) b = go (eqb v x) (listed-both v a b)
  where
    go : (c : Bool) → listed v (a ++ b) ≡ (listed v a || listed v b) → (if c then true else listed v (a ++ b)) ≡ ((if c then true else listed v a) || listed v b)
    go true e = refl
    go false e = e

length-labels : (cells : List ℕ) (from to : ℕ) → from ≤ to → to ≤ length cells → length (take (to - from) (drop from cells)) ≡ to - from
length-labels cells from to h l = length-take-le (to - from) (drop from cells) (omega (arith, length-drop from cells))

module _ (vs : List ℕ) where
  pub tells-has : {w : Ways} {f : Goal → Bool} {l : Bool} → Tells vs w f l → {g : Goal} (s : Small vs g) → has w s ≡ f g
  unfolding has
  tells-has t small-end = t.at_end
  tells-has t small-leave = t.at_exit
  tells-has t small-return = t.at_return
  tells-has t (small-call {r = r} h) = t.at_calls r h
  tells-has t (small-give j h b) = t.at_gives j h b

  pub has-tells : (w : Ways) (f : Goal → Bool) (l : Bool) → ((g : Goal) (s : Small vs g) → has w s ≡ f g) → w.looping ≡ l → Tells vs w f l
  unfolding has
  has-tells w f l h e = record { at_end = h end small-end; at_exit = h leave small-leave; at_return = h return small-return; at_calls = λ r b. h (calls r) (small-call b); at_gives = λ j d b. h (gives (get_or vs j 0)) (small-give j d b); at_loops = e }

  then-has : {w a r : Ways} → Then w a r → {g : Goal} (s : Small vs g) → has r s ≡ ((not (is_end g) && has w s) || (w.end && has a s))
  unfolding has is_end
  then-has t small-end = t.end
  then-has t small-leave = t.exit
  then-has t small-return = t.ret
  then-has t (small-call {r = r} h) = t.calls r
  then-has t (small-give j h b) = t.given j

  either-has : {w a r : Ways} {x : Bool} → Either w a x r → {g : Goal} (s : Small vs g) → has r s ≡ (has w s || (x && has a s))
  unfolding has
  either-has t small-end = t.end
  either-has t small-leave = t.exit
  either-has t small-return = t.ret
  either-has t (small-call {r = r} h) = t.calls r
  either-has t (small-give j h b) = t.given j

  placed-has : {b r : Ways} {n : ℕ} → Placed b n r → {g : Goal} (s : Small vs g) → has r s ≡ has b s
  unfolding has
  placed-has t small-end = t.end
  placed-has t small-leave = t.exit
  placed-has t small-return = t.ret
  placed-has t (small-call {r = r} h) = t.calls r
  placed-has t (small-give j h b) = t.given j

  head_at : (cells : List ℕ) (i : ℕ) → get_or (drop i cells) 0 0 ≡ get_or cells i 0
  head_at cells i = get_or-drop i cells 0 0 ∙ ap (λ (j : ℕ). get_or cells j 0) (omega arith)

  front : (cells : List ℕ) (at t : ℕ) → at < length cells → get_or cells at 0 ≡ t → drop at cells ≡ t ∷ drop (suc at) cells
  front cells at t h e = drop-cons cells at 0 h ∙ ap (λ (x : ℕ). x ∷ drop (suc at) cells) e

  -- An action that holds no other: the ways are these, with no call and no cycle
  record Same (ps : Known) (a : Act) (x y z : Bool) : Type 0 where
    pub end : x ≡ quiet ps a end
    pub exit : y ≡ quiet ps a leave
    pub ret : z ≡ quiet ps a return
    pub given : (v : ℕ) → false ≡ quiet ps a (gives v)
    pub calls : (r : ℕ) → false ≡ quiet ps a (calls r)
    pub loops : false ≡ loop ps a

  -- the first cell says it
  record Says (ps : Known) (p : Plain) (l k : List ℕ) : Type 0 where
    pub behind : drop (takes (get_or l 0 0)) l ≡ k
    pub same : Same ps (plain p) (past_cell (get_or l 0 0)) (eqb (get_or l 0 0) 1) (eqb (get_or l 0 0) 9)

  leaf-says : (ps : Known) (p : Plain) (k : List ℕ) → RangePlain p → (get_or (plain_cells p k) 0 0 ≡ 8 → ⊥) → (get_or (plain_cells p k) 0 0 ≡ 10 → ⊥) → Says ps p (plain_cells p k) k
  unfolding plain_cells takes past_cell quiet quiet_plain loop is_end is_leave is_return is_give RangePlain
  leaf-says ps (match t) k h n n₁₀ = record { behind = refl; same = record { end = refl; exit = refl; ret = refl; given = λ v. refl; calls = λ r. refl; loops = refl } }
  leaf-says ps any k h n n₁₀ = record { behind = refl; same = record { end = refl; exit = refl; ret = refl; given = λ v. refl; calls = λ r. refl; loops = refl } }
  leaf-says ps (emit t) k h n n₁₀ = record { behind = refl; same = record { end = refl; exit = refl; ret = refl; given = λ v. refl; calls = λ r. refl; loops = refl } }
  leaf-says ps (error t) k h n n₁₀ = record { behind = refl; same = record { end = refl; exit = refl; ret = refl; given = λ v. refl; calls = λ r. refl; loops = refl } }
  leaf-says ps exit k h n n₁₀ = record { behind = refl; same = record { end = refl; exit = refl; ret = refl; given = λ v. refl; calls = λ r. refl; loops = refl } }
  leaf-says ps (call r) k h n n₁₀ = absurd (n refl)
  leaf-says ps back k h n n₁₀ = record { behind = refl; same = record { end = refl; exit = refl; ret = refl; given = λ v. refl; calls = λ r. refl; loops = refl } }
  leaf-says ps (give v) k h n n₁₀ = absurd (n₁₀ refl)
  leaf-says ps (update op) k h n n₁₀ =
      let e₁ = ne_eqb op 1 (λ e. omega (arith, h.0)) in
      let e₄ = ne_eqb op 4 (λ e. omega (arith, h.0)) in
      let e₅ = ne_eqb op 5 (λ e. omega (arith, h.0)) in
      let e₆ = ne_eqb op 6 (λ e. omega (arith, h.0)) in
      let e₉ = ne_eqb op 9 (λ e. omega (arith, h.0)) in
      let g = le-ltb op 256 h.0 in
      let b = le-leb 256 op h.0 in
      let s = lt-ltb op 512 h.1 in
      record { behind = rw (e₁, e₄, e₉, g, s) refl; same = record { end = rw (e₅, e₆, b) refl; exit = e₁; ret = e₉; given = λ v. refl; calls = λ r. refl; loops = refl } }
  leaf-says ps (update_with op v) k h n n₁₀ =
      let e₁ = ne_eqb op 1 (λ e. omega (arith, h.0)) in
      let e₄ = ne_eqb op 4 (λ e. omega (arith, h.0)) in
      let e₅ = ne_eqb op 5 (λ e. omega (arith, h.0)) in
      let e₆ = ne_eqb op 6 (λ e. omega (arith, h.0)) in
      let e₉ = ne_eqb op 9 (λ e. omega (arith, h.0)) in
      let g = le-ltb op 256 (omega (arith, h.0)) in
      let b = le-leb 256 op (omega (arith, h.0)) in
      let s = le-ltb op 512 h.0 in
      record { behind = rw (e₁, e₄, e₉, g, s) refl; same = record { end = rw (e₅, e₆, b) refl; exit = e₁; ret = e₉; given = λ v. refl; calls = λ r. refl; loops = refl } }

  takes_some : (t : ℕ) → 0 < takes t
  unfolding takes
  takes_some t = go ((eqb t 1 || eqb t 4) || eqb t 9) (ltb t 256) (ltb t 512)
    where
      go : (a b c : Bool) → 0 < cond a 1 (cond b 2 (cond c 1 2))
      go true b c = omega arith
      go false true c = omega arith
      go false false true = omega arith
      go false false false = omega arith

  pub simple-told : (cells : List ℕ) (at : ℕ) (ps : Rules) (w : Ways) (m t n : ℕ) (x : Bool) → t ≡ get_or cells at 0 → (t ≡ 8 → ⊥) → (t ≡ 10 → ⊥) → x ≡ past_cell t → n ≡ takes t
      → (0 < n → at < m) → m ≤ length cells → drop m cells ≡ drop n (drop at cells) → Simple x (eqb t 1) (eqb t 9) m w → LeafTold cells at ps vs w
  simple-told cells at ps w m t n x e n₈ n₁₀ ex en b d₁ d p =
      let some : 0 < n = rw en (takes_some t) in
      record {
        after = rw p.next (b some);
        within = rw p.next d₁;
        told = λ facts c₀ q k c h.
            let f : get_or (plain_cells q k) 0 0 ≡ t = ap (λ (l : List ℕ). get_or l 0 0) (sym c) ∙ (head_at cells at ∙ sym e) in
            let s = leaf-says (known_in ps facts c₀) q k h (λ y. n₈ (sym f ∙ y)) (λ y. n₁₀ (sym f ∙ y)) in
            let v : Same (known_in ps facts c₀) (plain q) (past_cell t) (eqb t 1) (eqb t 9) = rw f at s.same in
            let y₁ : drop (takes t) (plain_cells q k) ≡ k = rw f at s.behind in (
              ap (λ (i : ℕ). drop i cells) p.next ∙ (d ∙ (ap (λ (i : ℕ). drop i (drop at cells)) en ∙ (ap (λ (l : List ℕ). drop (takes t) l) c ∙ y₁))),
              record { at_end = p.end ∙ (ex ∙ v.end); at_exit = p.exit ∙ v.exit; at_return = p.ret ∙ v.ret; at_calls = λ r b. p.calls r ∙ v.calls r; at_gives = λ j h b. p.given j ∙ v.given (get_or vs j 0); at_loops = p.loops ∙ v.loops },
            );
      }

  -- a `>>` with its value
  give-says : (ps : Known) (w : Ways) (g : Rules) (v m : ℕ) (p : Plain) (k : List ℕ) → RangePlain p → get_or (plain_cells p k) 0 0 ≡ 10 → v ≡ get_or (plain_cells p k) 1 0 → Giving g m w
      → ((j : ℕ) → j < length vs → j < 128 → member g j ≡ eqb v (get_or vs j 0))
      → (drop 2 (plain_cells p k) ≡ k) × Tells vs w (quiet ps (plain p)) (loop ps (plain p))
  unfolding plain_cells RangePlain quiet quiet_plain loop is_give
  give-says ps w g v m (match t) k h z e s f = absurd (omega arith)
  give-says ps w g v m any k h z e s f = absurd (omega arith)
  give-says ps w g v m (emit t) k h z e s f = absurd (omega arith)
  give-says ps w g v m (error t) k h z e s f = absurd (omega arith)
  give-says ps w g v m exit k h z e s f = absurd (omega arith)
  give-says ps w g v m (call t) k h z e s f = absurd (omega arith)
  give-says ps w g v m back k h z e s f = absurd (omega arith)
  give-says ps w g v m (give t) k h z e s f = (
    refl,
    record {
      at_end = s.end;
      at_exit = s.exit;
      at_return = s.ret;
      at_calls = λ j h. s.calls j;
      at_gives = λ j h b. ap (λ (r : Rules). member r j) s.given ∙ (f j h b ∙ ap (λ (x : ℕ). eqb x (get_or vs j 0)) e);
      at_loops = s.loops;
    },
  )
  give-says ps w g v m (update op) k h z e s f = absurd (omega (arith, h.0))
  give-says ps w g v m (update_with op t) k h z e s f = absurd (omega (arith, h.0))

  pub give-told : (cells : List ℕ) (at : ℕ) (ps : Rules) (w : Ways) (g : Rules) (v m : ℕ) → get_or cells at 0 ≡ 10 → v ≡ get_or cells (at + 1) 0 → at < m → m ≤ length cells → drop m cells ≡ drop 2 (drop at cells)
      → Giving g m w → ((j : ℕ) → j < length vs → j < 128 → member g j ≡ eqb v (get_or vs j 0)) → LeafTold cells at ps vs w
  give-told cells at ps w g v m e d d₁ l z p c = record {
    after = rw p.next d₁;
    within = rw p.next l;
    told = λ facts c₀ q k f h.
        let x = give-says (known_in ps facts c₀) w g v m q k h (ap (λ (l : List ℕ). get_or l 0 0) (sym f) ∙ (head_at cells at ∙ e)) (d ∙ (sym (get_or-drop at cells 1 0) ∙ ap (λ (l : List ℕ). get_or l 1 0) f)) p c in
        (ap (λ (i : ℕ). drop i cells) p.next ∙ (z ∙ (ap (λ (l : List ℕ). drop 2 l) f ∙ x.0)), x.1);
  }

  -- a call
  call-says : (ps : Known) (w b : Ways) (r m : ℕ) (p : Plain) (k : List ℕ) → RangePlain p → get_or (plain_cells p k) 0 0 ≡ 8 → r ≡ get_or (plain_cells p k) 1 0 → Simple (ps.passed r) false false m b → Calling b r w
      → (drop 2 (plain_cells p k) ≡ k) × Tells vs w (quiet ps (plain p)) (loop ps (plain p))
  unfolding plain_cells RangePlain quiet quiet_plain loop is_end is_call
  call-says ps w b r m (match t) k h z e s c = absurd (omega arith)
  call-says ps w b r m any k h z e s c = absurd (omega arith)
  call-says ps w b r m (emit t) k h z e s c = absurd (omega arith)
  call-says ps w b r m (error t) k h z e s c = absurd (omega arith)
  call-says ps w b r m exit k h z e s c = absurd (omega arith)
  call-says ps w b r m (call t) k h z e s c = (
    refl,
    record {
      at_end = c.end ∙ (s.end ∙ ap ps.passed e);
      at_exit = c.exit ∙ s.exit;
      at_return = c.ret ∙ s.ret;
      at_calls = λ j h. c.calls j h ∙ rw (s.calls j, e) refl;
      at_gives = λ j h b. c.given j ∙ s.given j;
      at_loops = c.loops ∙ s.loops;
    },
  )
  call-says ps w b r m back k h z e s c = absurd (omega arith)
  call-says ps w b r m (give v) k h z e s c = absurd (omega arith)
  call-says ps w b r m (update op) k h z e s c = absurd (omega (arith, h.0))
  call-says ps w b r m (update_with op v) k h z e s c = absurd (omega (arith, h.0))

  pub call-told : (cells : List ℕ) (at : ℕ) (ps : Rules) (b w : Ways) (r m : ℕ) → get_or cells at 0 ≡ 8 → r ≡ get_or cells (at + 1) 0 → at < m → m ≤ length cells → drop m cells ≡ drop 2 (drop at cells)
      → Simple (member ps r) false false m b → Calling b r w → LeafTold cells at ps vs w
  unfolding known_in
  call-told cells at ps b w r m e d d₁ v z p c =
      let n : w.next ≡ m = c.next ∙ p.next in
      record {
        after = rw n d₁;
        within = rw n v;
        told = λ facts c₀ q k f h.
            let x = call-says (known_in ps facts c₀) w b r m q k h (ap (λ (l : List ℕ). get_or l 0 0) (sym f) ∙ (head_at cells at ∙ e)) (d ∙ (sym (get_or-drop at cells 1 0) ∙ ap (λ (l : List ℕ). get_or l 1 0) f)) p c in
            (ap (λ (i : ℕ). drop i cells) n ∙ (z ∙ (ap (λ (l : List ℕ). drop 2 l) f ∙ x.0)), x.1);
      }

  -- the first cell of an action that holds no other
  record LeafCell (t : ℕ) : Type 0 where
    pub n0 : t ≡ 0 → ⊥
    pub n2 : t ≡ 2 → ⊥
    pub n7 : t ≡ 7 → ⊥
    pub n11 : t ≡ 11 → ⊥
    pub below : t < 768

  leaf-cell : (p : Plain) (k : List ℕ) → RangePlain p → LeafCell (get_or (plain_cells p k) 0 0)
  unfolding plain_cells RangePlain
  leaf-cell (match t) k h = record { n0 = λ e. omega arith; n2 = λ e. omega arith; n7 = λ e. omega arith; n11 = λ e. omega arith; below = omega arith }
  leaf-cell any k h = record { n0 = λ e. omega arith; n2 = λ e. omega arith; n7 = λ e. omega arith; n11 = λ e. omega arith; below = omega arith }
  leaf-cell (emit t) k h = record { n0 = λ e. omega arith; n2 = λ e. omega arith; n7 = λ e. omega arith; n11 = λ e. omega arith; below = omega arith }
  leaf-cell (error t) k h = record { n0 = λ e. omega arith; n2 = λ e. omega arith; n7 = λ e. omega arith; n11 = λ e. omega arith; below = omega arith }
  leaf-cell exit k h = record { n0 = λ e. omega arith; n2 = λ e. omega arith; n7 = λ e. omega arith; n11 = λ e. omega arith; below = omega arith }
  leaf-cell (call r) k h = record { n0 = λ e. omega arith; n2 = λ e. omega arith; n7 = λ e. omega arith; n11 = λ e. omega arith; below = omega arith }
  leaf-cell back k h = record { n0 = λ e. omega arith; n2 = λ e. omega arith; n7 = λ e. omega arith; n11 = λ e. omega arith; below = omega arith }
  leaf-cell (give v) k h = record { n0 = λ e. omega arith; n2 = λ e. omega arith; n7 = λ e. omega arith; n11 = λ e. omega arith; below = omega arith }
  leaf-cell (update op) k h =
      let g = h.0 in
      let s = h.1 in
      record { n0 = λ e. omega arith; n2 = λ e. omega arith; n7 = λ e. omega arith; n11 = λ e. omega arith; below = omega arith }
  leaf-cell (update_with op v) k h =
      let g = h.0 in
      let s = h.1 in
      record { n0 = λ e. omega arith; n2 = λ e. omega arith; n7 = λ e. omega arith; n11 = λ e. omega arith; below = omega arith }

  leaf-head : (p : Plain) (k : List ℕ) (l : List ℕ) → l ≡ plain_cells p k → RangePlain p → LeafCell (get_or l 0 0)
  leaf-head p k l e h = rw e (leaf-cell p k h)

  leaf-act-says : (ps : Known) (w : Ways) (R : List ℕ → Type 0) (t : ℕ) (l : List ℕ) (a : Act) (k : List ℕ) → (t ≡ 2 → ⊥) → (t ≡ 7 → ⊥) → (t ≡ 11 → ⊥) → t < 768
      → ((p : Plain) (k : List ℕ) → t ∷ l ≡ plain_cells p k → RangePlain p → R k × Tells vs w (quiet ps (plain p)) (loop ps (plain p))) → Lies (t ∷ l) a k → R k × Tells vs w (quiet ps a) (loop ps a)
  leaf-act-says ps w R t l a k n₂ n₇ n₁₁ b f (lies_plain {p = p} e h) = f p k e h
  leaf-act-says ps w R t l a k n₂ n₇ n₁₁ b f (lies_cycle x) = absurd (n₂ refl)
  leaf-act-says ps w R t l a k n₂ n₇ n₁₁ b f (lies_token x) = absurd (n₇ refl)
  leaf-act-says ps w R t l a k n₂ n₇ n₁₁ b f (lies_rule y x) = absurd (n₁₁ refl)
  leaf-act-says ps w R t l a k n₂ n₇ n₁₁ b f (lies_operation h u x) = absurd (omega arith)
  leaf-act-says ps w R t l a k n₂ n₇ n₁₁ b f (lies_operation_with h u x) = absurd (omega arith)

  -- neither a choice by the token nor one by an operation
  leaf-tests : (t : ℕ) → (eqb t 7 || leb 768 t) ≡ false → (t ≡ 7 → ⊥) × (t < 768)
  leaf-tests t e = let o = neither (eqb t 7) (leb 768 t) e in (eqb-false t 7 o.0, leb-false 768 t o.1)

  pub leaf-act : (cells : List ℕ) (at : ℕ) (ps : Rules) (facts : List ℕ) (m : ℕ) (w : Ways) (t : ℕ) → at < length cells → t ≡ get_or cells at 0 → (t ≡ 2 → ⊥) → (t ≡ 11 → ⊥) → (eqb t 7 || leb 768 t) ≡ false → LeafTold cells at ps vs w → ActTold cells at (known_in ps facts m) vs w
  leaf-act cells at ps facts m w t h e n₂ n₁₁ b s = record {
    after = s.after;
    within = s.within;
    told = λ a k l.
        let e₁ = front cells at t h (sym e) in
        let n = leaf-tests t b in
        leaf-act-says (known_in ps facts m) w (λ k. drop w.next cells ≡ k) t (drop (suc at) cells) a k n₂ n.0 n₁₁ n.1 (λ p k f g. s.told facts m p k (e₁ ∙ f) g) (rw e₁ at l);
  }

  -- a cycle
  cycle-says : (ps : Known) (b w : Ways) (R : List ℕ → Type 0) (l : List ℕ) (a : Act) (k : List ℕ) → ((q : Acts) (k : List ℕ) → LiesAll l q k → R k × Tells vs b (quiets ps q) (loops ps q)) → Cycled b w
      → Lies (2 ∷ l) a k → R k × Tells vs w (quiet ps a) (loop ps a)
  unfolding quiet loop is_end is_far
  cycle-says ps b w R l a k f c (lies_plain {p = p} e h) = absurd ((leaf-head p k (2 ∷ l) e h).n2 refl)
  cycle-says ps b w R l a k f c (lies_operation h u x) = absurd (omega arith)
  cycle-says ps b w R l a k f c (lies_operation_with h u x) = absurd (omega arith)
  cycle-says ps b w R l a k f c (lies_cycle {b = q} x) =
      let s = f q k x in (
        s.0,
        record {
          at_end = c.end ∙ (s.1.at_exit ∙ sym (or-false (quiets ps q leave)));
          at_exit = c.exit;
          at_return = c.ret ∙ s.1.at_return;
          at_calls = λ r h. c.calls r ∙ s.1.at_calls r h;
          at_gives = λ j h b. c.given j ∙ s.1.at_gives j h b;
          at_loops = c.loops ∙ rw (s.1.at_end, s.1.at_loops);
        },
      )

  pub cycle-told : (cells : List ℕ) (at : ℕ) (ps : Known) (b w : Ways) → at < length cells → get_or cells at 0 ≡ 2 → ActsTold cells (at + 1) ps vs b → Cycled b w → ActTold cells at ps vs w
  cycle-told cells at ps b w h e s c = record {
    after = rw c.next (omega (arith, s.after));
    within = rw c.next s.within;
    told = λ a k l. cycle-says ps b w (λ k. drop w.next cells ≡ k) (drop (suc at) cells) a k
        (λ q k x. let y = s.told q k (rw add-one x) in (rw c.next y.0, y.1)) c (rw (front cells at 2 h e) at l);
  }

  -- a choice by the token or by an operation
  choice-says : (ps : Known) (w : Ways) (R : List ℕ → Type 0) (t n : ℕ) (x : Bool) (l : List ℕ) (a : Act) (k : List ℕ) → ((t ≡ 7 → ⊥) → 768 ≤ t) → x ≡ not (eqb t 7) → n ≡ heads t
      → ((q : Alts) (o : Other) (k : List ℕ) → LiesRest (drop n (t ∷ l)) q o k → R k × Tells vs w (among ps x true q o) (loops_some ps q || loops_other ps o)) → Lies (t ∷ l) a k → R k × Tells vs w (quiet ps a) (loop ps a)
  unfolding quiet loop among heads
  choice-says ps w R t n x l a k b ex en f (lies_plain {p = p} e h) = let z = leaf-head p k (t ∷ l) e h in absurd (omega (arith, z.below, b z.n7))
  choice-says ps w R t n x l a k b ex en f (lies_cycle z) = absurd (omega (arith, b (λ e. omega arith)))
  choice-says ps w R t n x l a k b ex en f (lies_token {q = q} {o = o} z) = rw ex at (f q o k (rw en z))
  choice-says ps w R t n x l a k b ex en f (lies_rule y z) = absurd (omega (arith, b (λ e. omega arith)))
  choice-says ps w R t n x l a k b ex en f (lies_operation {q = q} {o = o} h u z) =
      let e₁ : x ≡ true = ex ∙ ap not (ne_eqb t 7 (λ e. omega (arith, h))) in
      let e₂ : n ≡ 1 = en ∙ rw (lt-ltb t 1024 u) refl in
      rw e₁ at (f q o k (rw e₂ z))
  choice-says ps w R t n x l a k b ex en f (lies_operation_with {q = q} {o = o} h u z) =
      let e₁ : x ≡ true = ex ∙ ap not (ne_eqb t 7 (λ e. omega (arith, h))) in
      let e₂ : n ≡ 2 = en ∙ rw (le-ltb t 1024 h) refl in
      rw e₁ at (f q o k (rw e₂ z))

  rule-says : (ps : Known) (b w : Ways) (r : ℕ) (R : List ℕ → Type 0) (l : List ℕ) (a : Act) (k : List ℕ) → r ≡ get_or l 0 0
      → ((q : Alts) (o : Other) (k : List ℕ) → labelled q ≤ 64 → LiesRest (drop 1 l) q o k → R k × Tells vs b (by_value ps r q o) (loops_some ps q || loops_other ps o)) → Calling b r w
      → Lies (11 ∷ l) a k → R k × Tells vs w (quiet ps a) (loop ps a)
  unfolding quiet loop by_value is_call
  rule-says ps b w r R l a k e f c (lies_plain {p = p} d h) = absurd ((leaf-head p k (11 ∷ l) d h).n11 refl)
  rule-says ps b w r R l a k e f c (lies_operation h v x) = absurd (omega arith)
  rule-says ps b w r R l a k e f c (lies_operation_with h v x) = absurd (omega arith)
  rule-says ps b w r R l a k e f c (lies_rule {r = t} {q = q} {o = o} y x) =
      let s = f q o k y x in (
        s.0,
        record {
          at_end = c.end ∙ (s.1.at_end ∙ rw e refl);
          at_exit = c.exit ∙ (s.1.at_exit ∙ rw e refl);
          at_return = c.ret ∙ (s.1.at_return ∙ rw e refl);
          at_calls = λ j h. c.calls j h ∙ rw (s.1.at_calls j h, e) refl;
          at_gives = λ j h b. c.given j ∙ (s.1.at_gives j h b ∙ rw e refl);
          at_loops = c.loops ∙ s.1.at_loops;
        },
      )

  -- the first cell says that it is such a choice
  chooses : (t : ℕ) → (eqb t 7 || leb 768 t) ≡ true → (t ≡ 7 → ⊥) → 768 ≤ t
  chooses t e n = leb-true 768 t (rw (ne_eqb t 7 n) at e)

  pub heads-some : (t : ℕ) → 0 < heads t
  unfolding heads
  heads-some t = go (ltb t 1024)
    where
      go : (a : Bool) → 0 < cond a 1 2
      go true = omega arith
      go false = omega arith

  -- what the alternatives' scan told, from the cell behind the head on
  pub choice-told : (cells : List ℕ) (at : ℕ) (ps : Known) (w : Ways) (t n m : ℕ) (x : Bool) → at < length cells → t ≡ get_or cells at 0 → (eqb t 7 || leb 768 t) ≡ true → x ≡ not (eqb t 7) → n ≡ heads t
      → at < m → drop m cells ≡ drop n (drop at cells) → AltsTold cells m ps vs x true w → ActTold cells at ps vs w
  choice-told cells at ps w t n m x h e b ex en u d s =
      let e₁ = front cells at t h (sym e) in
      let e₂ : drop m cells ≡ drop n (t ∷ drop (suc at) cells) = d ∙ ap (λ (l : List ℕ). drop n l) e₁ in
      record {
        after = omega (arith, s.after);
        within = s.within;
        told = λ a k l. choice-says ps w (λ k. drop w.next cells ≡ k) t n x (drop (suc at) cells) a k (chooses t b) ex en (λ q o k z. s.told q o k (rw e₂ z)) (rw e₁ at l);
      }

  pub rule_told : (cells : List ℕ) (at : ℕ) (ps : Known) (b w : Ways) (r m : ℕ) → at < length cells → get_or cells at 0 ≡ 11 → r ≡ get_or cells (at + 1) 0 → at < m → drop m cells ≡ drop 2 (drop at cells)
      → ValuedTold cells m ps vs r b → Calling b r w → ActTold cells at ps vs w
  rule_told cells at ps b w r m h e d v z s c =
      record {
        after = rw c.next (omega (arith, s.after));
        within = rw c.next s.within;
        told = λ a k l. rule-says ps b w r (λ k. drop w.next cells ≡ k) (drop (suc at) cells) a k
            (d ∙ (ap (λ (i : ℕ). get_or cells i 0) (add-one at) ∙ sym (head_at cells (suc at))))
            (λ q o k n x.
            let e₁ : drop m cells ≡ drop 2 (11 ∷ drop (suc at) cells) = z ∙ ap (λ (l : List ℕ). drop 2 l) (front cells at 11 h e) in
            let y = s.told q o k n (rw e₁ x) in (rw c.next y.0, y.1)) c (rw (front cells at 11 h e) at l);
      }

  -- Actions in a row: what is told so far, and what is left

  pub record Left (cells : List ℕ) (i : ℕ) (ps : Known) (w : Ways) (t : Acts) (k : List ℕ) : Type 0 where
    pub rest : Acts
    pub lies : LiesAll (drop i cells) rest k
    pub ways : (g : Goal) (s : Small vs g) → quiets ps t g ≡ ((not (is_end g) && has w s) || (w.end && quiets ps rest g))
    pub cycles : loops ps t ≡ (w.looping || loops ps rest)

  pub left-start : (cells : List ℕ) (at : ℕ) (ps : Known) (w : Ways) (n : ℕ) → Simple true false false n w → (t : Acts) (k : List ℕ) → LiesAll (drop at cells) t k → Left cells at ps w t k
  unfolding has is_end
  left-start cells at ps w n p t k l = record { rest = t; lies = l; ways = λ g s. start s; cycles = rw p.loops refl }
    where
      start : {g : Goal} (s : Small vs g) → quiets ps t g ≡ ((not (is_end g) && has w s) || (w.end && quiets ps t g))
      start small-end = rw p.end refl
      start small-leave = rw (p.exit, p.end) refl
      start small-return = rw (p.ret, p.end) refl
      start (small-call {r = r} h) = rw (p.calls r, p.end) refl
      start (small-give j h b) = rw (p.given j, p.end) refl

  joined : (n w e a b q : Bool) → ((n && w) || (e && ((n && a) || (b && q)))) ≡ ((n && ((n && w) || (e && a))) || ((e && b) && q))
  joined true true e a b q = refl
  joined true false true a b q = refl
  joined true false false a b q = refl
  joined false w true a b q = refl
  joined false w false a b q = refl

  -- one action more
  more : (cells : List ℕ) (ps : Known) (w a r : Ways) (t : Acts) (k : List ℕ) (l : List ℕ) (q : Acts)
      → ((b : Act) (k : List ℕ) → Lies l b k → (drop a.next cells ≡ k) × Tells vs a (quiet ps b) (loop ps b)) → Then w a r → (get_or l 0 0 ≡ 0 → ⊥)
      → LiesAll l q k → ((g : Goal) (s : Small vs g) → quiets ps t g ≡ ((not (is_end g) && has w s) || (w.end && quiets ps q g))) → loops ps t ≡ (w.looping || loops ps q)
      → Left cells r.next ps r t k
  unfolding quiet loop is_end
  more cells ps w a r t k l q f h z lies_done ways cycles = absurd (z refl)
  more cells ps w a r t k l q f h z (lies_next {a = b} {q = q₁} {m = m} x y) ways cycles =
      let s = f b m x in
      record {
        rest = q₁;
        lies = rw (ap (λ (i : ℕ). drop i cells) h.next ∙ s.0) y;
        ways = λ g n.
            ways g n
            ∙ (rw (← tells-has s.1 n, ← s.1.at_end)
            (joined (not (is_end g)) (has w n) w.end (has a n) a.end (quiets ps q₁ g)
            ∙ rw (then-has h n, h.end) refl));
        cycles = cycles ∙ rw (h.loops, s.1.at_loops) (sym (or_assoc w.looping (loop ps b) (loops ps q₁)));
      }

  pub left_step : (cells : List ℕ) (i : ℕ) (ps : Known) (w a r : Ways) (t : Acts) (k : List ℕ) → (get_or cells i 0 ≡ 0 → ⊥) → ActTold cells i ps vs a → Then w a r → Left cells i ps w t k → Left cells r.next ps r t k
  left_step cells i ps w a r t k z s h l = more cells ps w a r t k (drop i cells) l.rest s.told h (λ e. z (sym (head_at cells i) ∙ e)) l.lies l.ways l.cycles

  no_zero : {l m : List ℕ} {a : Act} → Lies l a m → get_or l 0 0 ≡ 0 → ⊥
  no_zero (lies_plain {p = p} {l = l} {k = k} e h) z = (leaf-head p k l e h).n0 z
  no_zero (lies_cycle x) e = omega arith
  no_zero (lies_token x) e = omega arith
  no_zero (lies_rule y x) e = omega arith
  no_zero (lies_operation h u x) e = omega arith
  no_zero (lies_operation_with h u x) e = omega arith

  nothing : (x e : Bool) → x ≡ (x || (e && false))
  nothing true e = refl
  nothing false true = refl
  nothing false false = refl

  -- at the end
  over : (cells : List ℕ) (ps : Known) (w r : Ways) (m : ℕ) (t : Acts) (k : List ℕ) (l : List ℕ) (q : Acts) → get_or l 0 0 ≡ 0 → drop m cells ≡ drop 1 l → Placed w m r
      → LiesAll l q k → ((g : Goal) (s : Small vs g) → quiets ps t g ≡ ((not (is_end g) && has w s) || (w.end && quiets ps q g))) → loops ps t ≡ (w.looping || loops ps q)
      → (drop r.next cells ≡ k) × Tells vs r (quiets ps t) (loops ps t)
  unfolding quiet loop has is_end
  over cells ps w r m t k l q z d p (lies_next x y) ways cycles = absurd (no_zero x z)
  over cells ps w r m t k l q z d p lies_done ways cycles = (
    ap (λ (i : ℕ). drop i cells) p.next ∙ d,
    has-tells r (quiets ps t) (loops ps t) (λ g n. placed-has p n ∙ (done-has n ∙ sym (ways g n))) (p.loops ∙ (sym (or-false w.looping) ∙ sym cycles)),
  )
    where
      done-has : {g : Goal} (s : Small vs g) → has w s ≡ ((not (is_end g) && has w s) || (w.end && is_end g))
      done-has small-end = sym (and-true w.end)
      done-has small-leave = nothing w.exit w.end
      done-has small-return = nothing w.ret w.end
      done-has (small-call {r = j} h) = nothing (member w.calls j) w.end
      done-has (small-give j h b) = nothing (member w.given j) w.end

  pub left-done : (cells : List ℕ) (at i : ℕ) (ps : Known) (w r : Ways) (m : ℕ) → get_or cells i 0 ≡ 0 → drop m cells ≡ drop 1 (drop i cells) → Placed w m r → at ≤ m → m ≤ length cells
      → ((t : Acts) (k : List ℕ) → LiesAll (drop at cells) t k → Left cells i ps w t k) → ActsTold cells at ps vs r
  left-done cells at i ps w r m z d p u v f = record {
    after = rw p.next u;
    within = rw p.next v;
    told = λ t k l. let x = f t k l in over cells ps w r m t k (drop i cells) x.rest (head_at cells i ∙ z) d p x.lies x.ways x.cycles;
  }

  -- Alternatives: what is told so far, and what is left

  pub record Rest (cells : List ℕ) (i : ℕ) (ps : Known) (x : Bool) (w : Ways) (q : Alts) (o : Other) (k : List ℕ) : Type 0 where
    pub rest : Alts
    pub lies : LiesRest (drop i cells) rest o k
    pub ways : (g : Goal) (s : Small vs g) → (x && quiet_some ps q g) ≡ (has w s || (x && quiet_some ps rest g))
    pub cycles : loops_some ps q ≡ (w.looping || loops_some ps rest)

  pub rest-start : (cells : List ℕ) (at : ℕ) (ps : Known) (x : Bool) (w : Ways) (n : ℕ) → Simple false false false n w → (q : Alts) (o : Other) (k : List ℕ) → LiesRest (drop at cells) q o k → Rest cells at ps x w q o k
  unfolding has
  rest-start cells at ps x w n p q o k l = record { rest = q; lies = l; ways = λ g s. start s; cycles = rw p.loops refl }
    where
      start : {g : Goal} (s : Small vs g) → (x && quiet_some ps q g) ≡ (has w s || (x && quiet_some ps q g))
      start small-end = rw p.end refl
      start small-leave = rw p.exit refl
      start small-return = rw p.ret refl
      start (small-call {r = r} h) = rw (p.calls r) refl
      start (small-give j h b) = rw (p.given j) refl

  either-or : (w x b q : Bool) → (w || (x && (b || q))) ≡ ((w || (x && b)) || (x && q))
  either-or true x b q = refl
  either-or false true b q = refl
  either-or false false b q = refl

  another : (cells : List ℕ) (ps : Known) (x : Bool) (w b r : Ways) (q : Alts) (o : Other) (k : List ℕ) (l : List ℕ) (m : ℕ) (q₁ : Alts) → 64 ≤ get_or l 0 0 → drop m cells ≡ drop (get_or l 0 0 - 63) l
      → ((t : Acts) (k : List ℕ) → LiesAll (drop m cells) t k → (drop b.next cells ≡ k) × Tells vs b (quiets ps t) (loops ps t)) → Either w b x r
      → LiesRest l q₁ o k → ((g : Goal) (s : Small vs g) → (x && quiet_some ps q g) ≡ (has w s || (x && quiet_some ps q₁ g))) → loops_some ps q ≡ (w.looping || loops_some ps q₁)
      → Rest cells b.next ps x r q o k
  unfolding quiet loop
  another cells ps x w b r q o k l m q₁ z d f h lies_absent ways cycles = absurd (omega arith)
  another cells ps x w b r q o k l m q₁ z d f h lies_absent_token ways cycles = absurd (omega arith)
  another cells ps x w b r q o k l m q₁ z d f h (lies_otherwise y) ways cycles = absurd (omega arith)
  another cells ps x w b r q o k l m q₁ z d f h (lies_alternative {t = c} {b = t} {q = q₂} {l = l₁} {m = k₁} n e e₀ y x₁) ways cycles =
      let e₁ : c - 63 ≡ suc n = omega arith in
      let d₁ : drop m cells ≡ drop n l₁ = d ∙ ap (λ (j : ℕ). drop j (c ∷ l₁)) e₁ in
      let s = f t k₁ (rw d₁ y) in
      record {
        rest = q₂;
        lies = rw s.0 x₁;
        ways = λ g v. ways g v ∙ (rw (← tells-has s.1 v) (either-or (has w v) x (has b v) (quiet_some ps q₂ g) ∙ rw (either-has h v) refl));
        cycles = cycles ∙ rw (h.loops, s.1.at_loops) (sym (or_assoc w.looping (loops ps t) (loops_some ps q₂)));
      }

  pub rest-step : (cells : List ℕ) (i : ℕ) (ps : Known) (x : Bool) (w b r : Ways) (m : ℕ) (q : Alts) (o : Other) (k : List ℕ) → 64 ≤ get_or cells i 0 → drop m cells ≡ drop (get_or cells i 0 - 63) (drop i cells) → ActsTold cells m ps vs b → Either w b x r
      → Rest cells i ps x w q o k → Rest cells b.next ps x r q o k
  rest-step cells i ps x w b r m q o k z d s h l =
      another cells ps x w b r q o k (drop i cells) m l.rest (rw (head_at cells i) z) (d ∙ ap (λ (j : ℕ). drop (j - 63) (drop i cells)) (sym (head_at cells i))) s.told h l.lies l.ways l.cycles

  closed : (cells : List ℕ) (ps : Known) (x y : Bool) (w r : Ways) (m : ℕ) (q : Alts) (o : Other) (k : List ℕ) (l : List ℕ) (q₁ : Alts) → get_or l 0 0 < 64 → (get_or l 0 0 ≡ 13 → ⊥) → drop m cells ≡ drop 1 l → Placed w m r
      → LiesRest l q₁ o k → ((g : Goal) (s : Small vs g) → (x && quiet_some ps q g) ≡ (has w s || (x && quiet_some ps q₁ g))) → loops_some ps q ≡ (w.looping || loops_some ps q₁)
      → (drop r.next cells ≡ k) × Tells vs r (among ps x y q o) (loops_some ps q || loops_other ps o)
  unfolding quiet loop among
  closed cells ps x y w r m q o k l q₁ z v d p (lies_otherwise u) ways cycles = absurd (v refl)
  closed cells ps x y w r m q o k l q₁ z v d p (lies_alternative n e e₀ y₀ c) ways cycles = absurd (omega arith)
  closed cells ps x y w r m q o k l q₁ z v d p lies_absent ways cycles = (
    ap (λ (i : ℕ). drop i cells) p.next ∙ d,
    has-tells r (among ps x y q absent) (loops_some ps q || false) (λ g n. placed-has p n ∙ (nothing (has w n) x ∙ (sym (ways g n) ∙ nothing (x && quiet_some ps q g) y)))
        (p.loops ∙ (sym (or-false w.looping) ∙ (sym cycles ∙ sym (or-false (loops_some ps q))))),
  )
  closed cells ps x y w r m q o k l q₁ z v d p lies_absent_token ways cycles = (
    ap (λ (i : ℕ). drop i cells) p.next ∙ d,
    has-tells r (among ps x y q absent) (loops_some ps q || false) (λ g n. placed-has p n ∙ (nothing (has w n) x ∙ (sym (ways g n) ∙ nothing (x && quiet_some ps q g) y)))
        (p.loops ∙ (sym (or-false w.looping) ∙ (sym cycles ∙ sym (or-false (loops_some ps q))))),
  )

  pub rest-closed : (cells : List ℕ) (at i : ℕ) (ps : Known) (x y : Bool) (w r : Ways) (m : ℕ) → get_or cells i 0 < 64 → (get_or cells i 0 ≡ 13 → ⊥) → drop m cells ≡ drop 1 (drop i cells) → Placed w m r → at ≤ m → m ≤ length cells
      → ((q : Alts) (o : Other) (k : List ℕ) → LiesRest (drop at cells) q o k → Rest cells i ps x w q o k) → AltsTold cells at ps vs x y r
  rest-closed cells at i ps x y w r m z n d p u v f = record {
    after = rw p.next u;
    within = rw p.next v;
    told = λ q o k l. let s = f q o k l in
        closed cells ps x y w r m q o k (drop i cells) s.rest (rw (head_at cells i) z) (λ e. n (sym (head_at cells i) ∙ e)) d p s.lies s.ways s.cycles;
  }

  open-other : (cells : List ℕ) (ps : Known) (x y : Bool) (w b r : Ways) (m : ℕ) (q : Alts) (o : Other) (k : List ℕ) (l : List ℕ) (q₁ : Alts) → get_or l 0 0 ≡ 13 → drop m cells ≡ drop 1 l
      → ((t : Acts) (k : List ℕ) → LiesAll (drop m cells) t k → (drop b.next cells ≡ k) × Tells vs b (quiets ps t) (loops ps t)) → Either w b y r
      → LiesRest l q₁ o k → ((g : Goal) (s : Small vs g) → (x && quiet_some ps q g) ≡ (has w s || (x && quiet_some ps q₁ g))) → loops_some ps q ≡ (w.looping || loops_some ps q₁)
      → (drop r.next cells ≡ k) × Tells vs r (among ps x y q o) (loops_some ps q || loops_other ps o)
  unfolding quiet loop among
  open-other cells ps x y w b r m q o k l q₁ z d f h lies_absent ways cycles = absurd (omega arith)
  open-other cells ps x y w b r m q o k l q₁ z d f h lies_absent_token ways cycles = absurd (omega arith)
  open-other cells ps x y w b r m q o k l q₁ z d f h (lies_alternative n e e₀ y₀ v) ways cycles = absurd (omega arith)
  open-other cells ps x y w b r m q o k l q₁ z d f h (lies_otherwise {b = t} u₁) ways cycles =
      let s = f t k (rw d u₁) in (
        ap (λ (i : ℕ). drop i cells) h.next ∙ s.0,
        has-tells r (among ps x y q (otherwise t)) (loops_some ps q || loops ps t)
            (λ g v. either-has h v ∙ (rw (tells-has s.1 v) (ap (λ (c : Bool). c || (y && quiets ps t g)) (nothing (has w v) x ∙ sym (ways g v)))))
            (h.loops ∙ rw s.1.at_loops (ap (λ (c : Bool). c || loops ps t) (sym (or-false w.looping) ∙ sym cycles))),
      )

  pub rest-other : (cells : List ℕ) (at i : ℕ) (ps : Known) (x y : Bool) (w b r : Ways) (m : ℕ) → get_or cells i 0 ≡ 13 → drop m cells ≡ drop 1 (drop i cells) → ActsTold cells m ps vs b → Either w b y r → at ≤ m
      → ((q : Alts) (o : Other) (k : List ℕ) → LiesRest (drop at cells) q o k → Rest cells i ps x w q o k) → AltsTold cells at ps vs x y r
  rest-other cells at i ps x y w b r m z d a h u f = record {
    after = rw h.next (omega (arith, a.after));
    within = rw h.next a.within;
    told = λ q o k l. let s = f q o k l in open-other cells ps x y w b r m q o k (drop i cells) s.rest (head_at cells i ∙ z) d a.told h s.lies s.ways s.cycles;
  }

  -- Alternatives by a value: what is told so far, the labels met so far, and what is left

  pub record RestBy (cells : List ℕ) (i : ℕ) (ps : Known) (c : ℕ) (w : Ways) (ls : List ℕ) (n : ℕ) (q : Alts) (o : Other) (k : List ℕ) : Type 0 where
    pub rest : Alts
    pub lies : LiesRest (drop i cells) rest o k
    pub ways : (g : Goal) (s : Small vs g) → quiet_named ps c q g ≡ (has w s || quiet_named ps c rest g)
    pub cycles : loops_some ps q ≡ (w.looping || loops_some ps rest)
    pub names : (v : ℕ) → named v q ≡ (listed v ls || named v rest)
    pub few : n + labelled rest ≤ 64

  pub by-start : (cells : List ℕ) (at : ℕ) (ps : Known) (c : ℕ) (w : Ways) (n : ℕ) → Simple false false false n w → (q : Alts) (o : Other) (k : List ℕ) → labelled q ≤ 64 → LiesRest (drop at cells) q o k → RestBy cells at ps c w [] 0 q o k
  unfolding has
  by-start cells at ps c w n p q o k f l = record { rest = q; lies = l; ways = λ g s. start s; cycles = rw p.loops refl; names = λ v. refl; few = omega arith }
    where
      start : {g : Goal} (s : Small vs g) → quiet_named ps c q g ≡ (has w s || quiet_named ps c q g)
      start small-end = rw p.end refl
      start small-leave = rw p.exit refl
      start small-return = rw p.ret refl
      start (small-call {r = r} h) = rw (p.calls r) refl
      start (small-give j h b) = rw (p.given j) refl

  not-empty : {l m : List ℕ} {b : Acts} → LiesAll l b m → l ≡ [] → ⊥
  not-empty lies_done e = omega (arith, ap length e)
  not-empty (lies_next x y) e = no_zero x (ap (λ (l : List ℕ). get_or l 0 0) e)

  some-cell : (l m : List ℕ) (b : Acts) → LiesAll l b m → 0 < length l
  some-cell [] m b y = absurd (not-empty y refl)
  some-cell (x ∷ l) m b y = omega arith

  -- the labels of an alternative stand between its first cell and its actions
  its-labels : (cells : List ℕ) (from to n : ℕ) (l ls m : List ℕ) (b : Acts) → drop from cells ≡ l → drop to cells ≡ drop n l → from ≤ to → to ≤ length cells → take n l ≡ ls → LiesAll (drop n l) b m
      → (to - from ≡ n) × (take (to - from) (drop from cells) ≡ ls)
  its-labels cells from to n l ls m b e d f t h y =
      let a = some-cell (drop n l) m b y in
      let x : length (drop to cells) ≡ length (drop n l) = ap (λ (l : List ℕ). length l) d in
      let z : length (drop from cells) ≡ length l = ap (λ (l : List ℕ). length l) e in
      let c : to - from ≡ n = omega (arith, length-drop to cells, length-drop from cells, length-drop n l) in
      (c, rw (c, e) h)

  -- one alternative more: b tells of its actions, x whether a value matches
  another-by : (cells : List ℕ) (ps : Known) (c : ℕ) (x : Bool) (w b r : Ways) (q : Alts) (o : Other) (k : List ℕ) (l : List ℕ) (from to : ℕ) (labels more : List ℕ) (n j : ℕ) (q₁ : Alts) → 64 ≤ get_or l 0 0
      → drop from cells ≡ drop 1 l → drop to cells ≡ drop (get_or l 0 0 - 64) (drop from cells) → from ≤ to → to ≤ length cells
      → x ≡ ps.some_value c (λ v. listed v (take (to - from) (drop from cells)))
      → (n + (to - from) ≤ 64 → (j ≡ n + (to - from)) × (more ≡ labels ++ take (to - from) (drop from cells)))
      → ((t : Acts) (k : List ℕ) → LiesAll (drop to cells) t k → (drop b.next cells ≡ k) × Tells vs b (quiets ps t) (loops ps t)) → Either w b x r
      → LiesRest l q₁ o k → ((g : Goal) (s : Small vs g) → quiet_named ps c q g ≡ (has w s || quiet_named ps c q₁ g)) → loops_some ps q ≡ (w.looping || loops_some ps q₁)
      → ((v : ℕ) → named v q ≡ (listed v labels || named v q₁)) → n + labelled q₁ ≤ 64
      → RestBy cells b.next ps c r more j q o k
  unfolding quiet loop labelled named
  another-by cells ps c x w b r q o k l from to labels more n j q₁ z d₁ d₂ h₁ h₂ e₁ e₂ f h lies_absent ways cycles names few = absurd (omega arith)
  another-by cells ps c x w b r q o k l from to labels more n j q₁ z d₁ d₂ h₁ h₂ e₁ e₂ f h lies_absent_token ways cycles names few = absurd (omega arith)
  another-by cells ps c x w b r q o k l from to labels more n j q₁ z d₁ d₂ h₁ h₂ e₁ e₂ f h (lies_otherwise y) ways cycles names few = absurd (omega arith)
  another-by cells ps c x w b r q o k l from to labels more n j q₁ z d₁ d₂ h₁ h₂ e₁ e₂ f h (lies_alternative {t = u} {ls = ls} {b = t} {q = q₂} {l = l₁} {m = k₁} a e e₀ y x₁) ways cycles names few =
      let s₁ : u - 64 ≡ a = omega arith in
      let d₃ : drop to cells ≡ drop a l₁ = d₂ ∙ (ap (λ (j : ℕ). drop j (drop from cells)) s₁ ∙ ap (λ (m : List ℕ). drop a m) d₁) in
      let its = its-labels cells from to a l₁ ls k₁ t d₁ d₃ h₁ h₂ e₀ y in
      let s = f t k₁ (rw d₃ y) in
      let len : length ls ≡ to - from = ap (λ (m : List ℕ). length m) (sym its.1) ∙ length-labels cells from to h₁ h₂ in
      let col = e₂ (omega arith) in
      let more₁ : more ≡ labels ++ ls = col.1 ∙ ap (λ (m : List ℕ). labels ++ m) its.1 in
      let open₁ : x ≡ ps.some_value c (λ v. listed v ls) = e₁ ∙ ap (λ (m : List ℕ). ps.some_value c (λ v. listed v m)) its.1 in
      record {
        rest = q₂;
        lies = rw s.0 x₁;
        ways = λ g v. ways g v ∙ (rw (← open₁, ← tells-has s.1 v) (sym (or_assoc (has w v) (x && has b v) (quiet_named ps c q₂ g)) ∙ rw (either-has h v) refl));
        cycles = cycles ∙ rw (h.loops, s.1.at_loops) (sym (or_assoc w.looping (loops ps t) (loops_some ps q₂)));
        names = λ v. names v ∙ rw (more₁, listed-both v labels ls) (sym (or_assoc (listed v labels) (listed v ls) (named v q₂)));
        few = omega (arith, col.0);
      }

  pub by-step : (cells : List ℕ) (i : ℕ) (ps : Known) (c : ℕ) (x : Bool) (w b r : Ways) (from to : ℕ) (labels more : List ℕ) (n j : ℕ) (q : Alts) (o : Other) (k : List ℕ) → 64 ≤ get_or cells i 0
      → drop from cells ≡ drop 1 (drop i cells) → drop to cells ≡ drop (get_or cells i 0 - 64) (drop from cells) → from ≤ to → to ≤ length cells
      → x ≡ ps.some_value c (λ v. listed v (take (to - from) (drop from cells)))
      → (n + (to - from) ≤ 64 → (j ≡ n + (to - from)) × (more ≡ labels ++ take (to - from) (drop from cells)))
      → ActsTold cells to ps vs b → Either w b x r → RestBy cells i ps c w labels n q o k → RestBy cells b.next ps c r more j q o k
  by-step cells i ps c x w b r from to labels more n j q o k z d₁ d₂ h₁ h₂ e₁ e₂ s h l =
      another-by cells ps c x w b r q o k (drop i cells) from to labels more n j l.rest (rw (head_at cells i) z) d₁ (d₂ ∙ ap (λ (t : ℕ). drop (t - 64) (drop from cells)) (sym (head_at cells i))) h₁ h₂ e₁ e₂ s.told h l.lies l.ways l.cycles l.names l.few

  by-closed-says : (cells : List ℕ) (ps : Known) (c : ℕ) (w r : Ways) (m : ℕ) (q : Alts) (o : Other) (k : List ℕ) (l : List ℕ) (q₁ : Alts) → get_or l 0 0 < 64 → (get_or l 0 0 ≡ 13 → ⊥) → drop m cells ≡ drop 1 l → Placed w m r
      → LiesRest l q₁ o k → ((g : Goal) (s : Small vs g) → quiet_named ps c q g ≡ (has w s || quiet_named ps c q₁ g)) → loops_some ps q ≡ (w.looping || loops_some ps q₁)
      → (drop r.next cells ≡ k) × Tells vs r (by_value ps c q o) (loops_some ps q || loops_other ps o)
  unfolding quiet loop by_value
  by-closed-says cells ps c w r m q o k l q₁ z v d p (lies_otherwise u) ways cycles = absurd (v refl)
  by-closed-says cells ps c w r m q o k l q₁ z v d p (lies_alternative n e e₀ y₀ x) ways cycles = absurd (omega arith)
  by-closed-says cells ps c w r m q o k l q₁ z v d p lies_absent ways cycles = (
    ap (λ (i : ℕ). drop i cells) p.next ∙ d,
    has-tells r (by_value ps c q absent) (loops_some ps q || false) (λ g n. placed-has p n ∙ (sym (or-false (has w n)) ∙ (sym (ways g n) ∙ nothing (quiet_named ps c q g) (ps.some_value c (λ v. not (named v q))))))
        (p.loops ∙ (sym (or-false w.looping) ∙ (sym cycles ∙ sym (or-false (loops_some ps q))))),
  )
  by-closed-says cells ps c w r m q o k l q₁ z v d p lies_absent_token ways cycles = (
    ap (λ (i : ℕ). drop i cells) p.next ∙ d,
    has-tells r (by_value ps c q absent) (loops_some ps q || false) (λ g n. placed-has p n ∙ (sym (or-false (has w n)) ∙ (sym (ways g n) ∙ nothing (quiet_named ps c q g) (ps.some_value c (λ v. not (named v q))))))
        (p.loops ∙ (sym (or-false w.looping) ∙ (sym cycles ∙ sym (or-false (loops_some ps q))))),
  )

  pub by-closed : (cells : List ℕ) (at i : ℕ) (ps : Known) (c : ℕ) (w r : Ways) (ls : List ℕ) (n m : ℕ) → get_or cells i 0 < 64 → (get_or cells i 0 ≡ 13 → ⊥) → drop m cells ≡ drop 1 (drop i cells) → Placed w m r → at ≤ m → m ≤ length cells
      → ((q : Alts) (o : Other) (k : List ℕ) → labelled q ≤ 64 → LiesRest (drop at cells) q o k → RestBy cells i ps c w ls n q o k) → ValuedTold cells at ps vs c r
  by-closed cells at i ps c w r ls n m z x d p u v f = record {
    after = rw p.next u;
    within = rw p.next v;
    told = λ q o k h l. let s = f q o k h l in
        by-closed-says cells ps c w r m q o k (drop i cells) s.rest (rw (head_at cells i) z) (λ e. x (sym (head_at cells i) ∙ e)) d p s.lies s.ways s.cycles;
  }

  by-other-says : (cells : List ℕ) (ps : Known) (c : ℕ) (y : Bool) (w b r : Ways) (ls : List ℕ) (m : ℕ) (q : Alts) (o : Other) (k : List ℕ) (l : List ℕ) (q₁ : Alts) → get_or l 0 0 ≡ 13 → drop m cells ≡ drop 1 l
      → (((v : ℕ) → named v q ≡ listed v ls) → y ≡ ps.some_value c (λ v. not (named v q)))
      → ((t : Acts) (k : List ℕ) → LiesAll (drop m cells) t k → (drop b.next cells ≡ k) × Tells vs b (quiets ps t) (loops ps t)) → Either w b y r
      → LiesRest l q₁ o k → ((g : Goal) (s : Small vs g) → quiet_named ps c q g ≡ (has w s || quiet_named ps c q₁ g)) → loops_some ps q ≡ (w.looping || loops_some ps q₁)
      → ((v : ℕ) → named v q ≡ (listed v ls || named v q₁))
      → (drop r.next cells ≡ k) × Tells vs r (by_value ps c q o) (loops_some ps q || loops_other ps o)
  unfolding quiet loop by_value named
  by-other-says cells ps c y w b r ls m q o k l q₁ z d e f h lies_absent ways cycles names = absurd (omega arith)
  by-other-says cells ps c y w b r ls m q o k l q₁ z d e f h lies_absent_token ways cycles names = absurd (omega arith)
  by-other-says cells ps c y w b r ls m q o k l q₁ z d e f h (lies_alternative n e₁ e₀ y₀ v) ways cycles names = absurd (omega arith)
  by-other-says cells ps c y w b r ls m q o k l q₁ z d e f h (lies_otherwise {b = t} u₁) ways cycles names =
      let s = f t k (rw d u₁) in
      let y₁ : y ≡ ps.some_value c (λ v. not (named v q)) = e (λ v. names v ∙ or-false (listed v ls)) in (
        ap (λ (i : ℕ). drop i cells) h.next ∙ s.0,
        has-tells r (by_value ps c q (otherwise t)) (loops_some ps q || loops ps t)
            (λ g v. either-has h v ∙ (rw (tells-has s.1 v, ← y₁) (ap (λ (a : Bool). a || (y && quiets ps t g)) (sym (or-false (has w v)) ∙ sym (ways g v)))))
            (h.loops ∙ rw s.1.at_loops (ap (λ (c : Bool). c || loops ps t) (sym (or-false w.looping) ∙ sym cycles))),
      )

  pub by-other : (cells : List ℕ) (at i : ℕ) (ps : Known) (c : ℕ) (y : Bool) (w b r : Ways) (ls : List ℕ) (n m : ℕ) → get_or cells i 0 ≡ 13 → drop m cells ≡ drop 1 (drop i cells)
      → ((q : Alts) → ((v : ℕ) → named v q ≡ listed v ls) → y ≡ ps.some_value c (λ v. not (named v q)))
      → ActsTold cells m ps vs b → Either w b y r → at ≤ m
      → ((q : Alts) (o : Other) (k : List ℕ) → labelled q ≤ 64 → LiesRest (drop at cells) q o k → RestBy cells i ps c w ls n q o k) → ValuedTold cells at ps vs c r
  by-other cells at i ps c y w b r ls n m z d e a h u f = record {
    after = rw h.next (omega (arith, a.after));
    within = rw h.next a.within;
    told = λ q o k g l. let s = f q o k g l in by-other-says cells ps c y w b r ls m q o k (drop i cells) s.rest (head_at cells i ∙ z) d (e q) a.told h s.lies s.ways s.cycles s.names;
  }

-- no label more is named: what is unnamed by the labels is by the alternatives
pub unnamed-same : (facts : List ℕ) (m c : ℕ) (ls : List ℕ) (q : Alts) → ((v : ℕ) → named v q ≡ listed v ls) → some_in facts m c (λ v. not (listed v ls)) ≡ some_in facts m c (λ v. not (named v q))
unfolding some_in
unnamed-same facts m c ls q e =
    below-same m (λ i. eqb (get_or facts (2 * i) 0) c && not (listed (get_or facts (2 * i + 1) 0) ls)) (λ i. eqb (get_or facts (2 * i) 0) c && not (named (get_or facts (2 * i + 1) 0) q))
    (λ i u. rw (e (get_or facts (2 * i + 1) 0)) refl)

pub nonzero-lt : (cells : List ℕ) (i : ℕ) → (get_or cells i 0 ≡ 0 → ⊥) → i < length cells
nonzero-lt [] i n = absurd (n refl)
nonzero-lt (x ∷ cells) zero n = omega arith
nonzero-lt (x ∷ cells) (suc i) n = omega (arith, nonzero-lt cells i n)
