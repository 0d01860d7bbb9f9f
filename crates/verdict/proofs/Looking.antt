-- Laws of looks at a rule, of sweeps over the rules, and of sweeps until one brings nothing.
use Prim.Native.Nat.{ℕ, suc, ◌+◌, ◌-◌, ◌*◌, ◌<◌, ◌≤◌}
use mathlib.Core.Path.{◌≡◌, refl, sym, ap, ◌∙◌}
use mathlib.Core.Logic.{inl, inr}
use mathlib.Core.Bool.{Bool, true, false, cond, not, ◌||◌, ◌&&◌}
use mathlib.Core.List.{List}
use native.Mathlib.Omega.{arith}
use native.Mathlib.Decide.{dec_lt}
use lib.Dec.{eqb}
use lib.ListN.{length, get_or, take, drop, length-take, length-drop}
use lib.Seq.{get_or-drop, get_or-take, length-take-le}
use borrow.Author.Tests.{eq-eqb, eqb-true, le-ltb, not-false}
use Rattle.base.specs.Bools.{never, or, and, or₁, both}
use Rattle.program.specs.Program.{Rule, body_of}
use Rattle.finishing.specs.Finishing.{Gives, Passed}
use Rattle.finishing.specs.Test.{Known, gives, quiets, loops, passes}
use Rattle.finishing.proofs.Rounds.{values_in}
use Rattle.finishing.proofs.Paths.{passes-sound, gives-sound}
use Rattle.verdict.specs.Told.{member, known_in, Tells, RuleTold, Laid, True, Exhausts, Apart, ClosedAt, alike, Same, GatheredTold, NotesTold, outside, Widens, Joined, Looks, AskedTold, TriedTold, LookedTold, SweepTold, LearntTold}
use Rattle.verdict.specs.declared.Rules.{Rules}
use Rattle.verdict.specs.declared.Ways.{Ways}
use Rattle.verdict.specs.declared.Learnt.{Learnt}
use Rattle.verdict.specs.declared.Query.{Query}
use Rattle.verdict.specs.declared.Look.{Look}
use Rattle.verdict.proofs.Sets.{member-none}
use Rattle.verdict.proofs.Table.{sound-known}
use Rattle.verdict.proofs.Stands.{Stands, stands}
use Rattle.verdict.proofs.Growth.{some-kept, known_same, widens-self, widens-trans, same_mid, widens-known, alike_same, widens-falls, widens-less}

member-past : (s : Rules) (k : ℕ) → 128 ≤ k → member s k ≡ false
unfolding member
member-past s k h = rw (le-ltb k 64 (omega arith), le-ltb k 128 h) refl

-- One look
module _ (cells starts : List ℕ) (r : ℕ) (j : Learnt) (old : List ℕ) (vs : List ℕ) (g : Query) (w : Ways) (new : List ℕ) (count : ℕ) (qs : Rules)
    (few : g.count ≤ 128) (told : RuleTold cells starts r (known_in j.passed old j.count) vs w)
    (notes : NotesTold old j.count r vs g.count w.given new count) (joined : Joined j.passed r (w.end || w.ret) qs) where
  abbrev kn : Known
  kn = known_in j.passed old j.count

  abbrev its : (prog : List Rule) → r < length prog → (l : Laid cells starts prog) → Tells vs w (quiets kn (body_of prog r)) (loops kn (body_of prog r))
  its prog h l = (told.told (body_of prog r) (l.tail r) (l.lies r h)).1

  passed-by : (prog : List Rule) → r < length prog → Laid cells starts prog → passes kn (body_of prog r) ≡ (w.end || w.ret)
  unfolding passes
  passed-by prog h l = let t = its prog h l in rw (← t.at_end, ← t.at_return) refl

  given_by : (prog : List Rule) → r < length prog → Laid cells starts prog → g.count ≤ length vs → (i : ℕ) → i < g.count → member w.given i ≡ quiets kn (body_of prog r) (gives (get_or vs i 0))
  given_by prog h l f i b = (its prog h l).at_gives i (omega arith) (omega arith)

  rules-hold : (prog : List Rule) → r < length prog → Laid cells starts prog → True prog j.passed old j.count → (s : ℕ) → member qs s ≡ true → Passed prog s
  rules-hold prog h l t s e = elim (dec_lt s 128) [
    | yes b ↦ elim (or ((w.end || w.ret) && eqb r s) (member j.passed s) (sym (joined.members s b) ∙ e)) [
      | inl x ↦
          let y = and (w.end || w.ret) (eqb r s) x in
          let p : Passed prog r = passes-sound prog kn (sound-known prog j.passed old j.count t) r h (passed-by prog h l ∙ y.0) in
          rw (eqb-true r s y.1) at p
      | inr x ↦ t.passes s x
    ]
    | no b ↦ never (sym (member-past qs s (omega arith)) ∙ e)
  ]

  gives_same : (prog : List Rule) (a b u v : ℕ) → a ≡ b → u ≡ v → Gives prog b v → Gives prog a u
  gives_same prog a b u v d e x = rw (d, e) x

  values-hold : (prog : List Rule) → r < length prog → Laid cells starts prog → g.count ≤ length vs → True prog j.passed old j.count → (i : ℕ) → i < count → Gives prog (get_or new (2 * i) 0) (get_or new (2 * i + 1) 0)
  values-hold prog h l f t i b = elim (dec_lt i j.count) [
    | yes x ↦ gives_same prog (get_or new (2 * i) 0) (get_or old (2 * i) 0) (get_or new (2 * i + 1) 0) (get_or old (2 * i + 1) 0) (notes.grows.kept (2 * i) (omega arith)) (notes.grows.kept (2 * i + 1) (omega arith)) (t.returns i x)
    | no x ↦
        let y = notes.each i (omega arith) b in
        let m = y.1 in
        let z = gives-sound prog kn (sound-known prog j.passed old j.count t) r (get_or vs m.index 0) h (sym (given_by prog h l f m.index m.below) ∙ m.there) in
        gives_same prog (get_or new (2 * i) 0) r (get_or new (2 * i + 1) 0) (get_or vs m.index 0) y.0 (sym m.its) z
  ]

  exhausted : (from to : ℕ) → GatheredTold cells from to old j.count r vs g → (prog : List Rule) → r < length prog → Laid cells starts prog → 2 * count + 1 < length new → kn ≡ known_in qs new count → Exhausts cells prog qs new count r from g.next
  exhausted from to gt prog h l b same = record {
    values = λ i x y e q.
        let v = get_or cells (i + 1) 0 in
        let p : quiets kn (body_of prog r) (gives v) ≡ true = rw (← same) at q in
        elim (gt.all i x y e) [
          | inl z ↦ some-kept old j.count new count r v notes.grows z
          | inr z ↦
              let d : member w.given z.index ≡ quiets kn (body_of prog r) (gives v) = rw z.its at (given_by prog h l gt.few z.index z.below) in
              rw z.its at (notes.whole b z.index z.below (d ∙ p))
        ];
  }

  pub look-told : (from to : ℕ) → r < 128 → GatheredTold cells from to old j.count r vs g
      → TriedTold cells starts r j old from to (record { known = record { passed = qs; count = count }; given = w.given; at = g.next; end = w.next }) new
  look-told from to s gt = record {
    looks = record {
      widens = record { facts = notes.grows; sets = joined.grows s };
      after = gt.after;
      inside = told.within;
      holds = λ prog h l t. record { passes = rules-hold prog h l t; returns = values-hold prog h l gt.few t };
      ends = λ prog h l. (told.told (body_of prog r) (l.tail r) (l.lies r h)).0;
      passing = λ prog h l q e.
          let same : kn ≡ known_in qs new count = known_same j.passed qs old new j.count count q.passed q.count notes.grows.kept in
          let p : passes kn (body_of prog r) ≡ true = rw (← same) at e in
          joined.members r s ∙ or₁ ((w.end || w.ret) && eqb r r) (member j.passed r) (both (w.end || w.ret) (eqb r r) (sym (passed-by prog h l) ∙ p) (eq-eqb r r refl));
      tried = λ prog h l q b. exhausted from to gt prog h l b (known_same j.passed qs old new j.count count q.passed q.count notes.grows.kept);
    };
    further = gt.further;
    within = gt.within;
  }

-- nothing is to be asked for from a place to the same
pub gather-nothing : (cells : List ℕ) (at : ℕ) (facts : List ℕ) (m r : ℕ) (vs : List ℕ) → GatheredTold cells at at facts m r vs (record { count = length vs; next = at })
gather-nothing cells at facts m r vs = record {
  after = omega arith;
  within = omega arith;
  further = λ h. absurd (omega arith);
  few = omega arith;
  all = λ i x y. absurd (omega arith);
}

-- the values beyond those to ask for are not needed
pub gather-first : (cells : List ℕ) (from to : ℕ) (facts : List ℕ) (m r : ℕ) (vs : List ℕ) (g : Query) → GatheredTold cells from to facts m r vs g
    → GatheredTold cells from to facts m r (take g.count vs) (record { count = length (take g.count vs); next = g.next })
gather-first cells from to facts m r vs g t =
    let n : length (take g.count vs) ≡ g.count = length-take-le g.count vs t.few in
    record {
      after = t.after;
      within = t.within;
      further = t.further;
      few = omega arith;
      all = λ i x y e. elim (t.all i x y e) [
        | inl z ↦ inl z
        | inr z ↦ inr (record { index = z.index; below = omega (arith, n, z.below); its = get_or-take g.count vs z.index 0 z.below ∙ z.its })
      ];
    }

pub take-most : (n : ℕ) (l : List ℕ) → length (take n l) ≤ n
take-most n l = omega (arith, length-take n l)

-- the place that a look says
pub look_at : (cells starts : List ℕ) (r : ℕ) (j : Learnt) (old vs : List ℕ) (at : ℕ) (t : Look) (new : List ℕ) → AskedTold cells starts r j old vs at t new → t.at ≡ at
look_at cells starts r j old vs at t new a =
    let x = a.told at at (gather-nothing cells at old j.count r vs) in
    omega (arith, x.looks.after, x.within)

-- a look after one that brought values, whatever it asks for
pub tried-more : (cells starts : List ℕ) (r : ℕ) (j : Learnt) (old : List ℕ) (from to : ℕ) (t : Look) (mid vs : List ℕ) (at : ℕ) (u : Look) (new : List ℕ) → t.at ≡ at → j.count < t.known.count
    → TriedTold cells starts r j old from to t mid → AskedTold cells starts r t.known mid vs at u new → TriedTold cells starts r j old from to u new
tried-more cells starts r j old from to t mid vs at u new e h a b =
    let x = b.told at at (gather-nothing cells at mid t.known.count r vs) in
    let w = a.looks.widens in
    let v = x.looks.widens in
    record {
      looks = record {
        widens = widens-trans j t.known u.known old mid new w v;
        after = omega (arith, e, a.looks.after, x.looks.after);
        inside = x.looks.inside;
        holds = λ prog l d y. x.looks.holds prog l d (a.looks.holds prog l d y);
        ends = x.looks.ends;
        passing = λ prog l d s. absurd (omega (arith, h, v.facts.more, s.count));
        tried = λ prog l d s. absurd (omega (arith, h, v.facts.more, s.count));
      };
      further = λ f. omega (arith, e, a.further f, x.looks.after);
      within = omega (arith, e, a.within, x.within);
    }

-- Looks one after the other
pub looks-next : (cells starts : List ℕ) (r : ℕ) (j : Learnt) (old : List ℕ) (from : ℕ) (t : Look) (mid : List ℕ) (u : Look) (new : List ℕ)
    → Looks cells starts r j old from t mid → Looks cells starts r t.known mid t.at u new → Looks cells starts r j old from u new
looks-next cells starts r j old from t mid u new a b = record {
  widens = widens-trans j t.known u.known old mid new a.widens b.widens;
  after = omega (arith, a.after, b.after);
  inside = b.inside;
  holds = λ prog h l x. b.holds prog h l (a.holds prog h l x);
  ends = b.ends;
  passing = λ prog h l q e. b.passing prog h l (mid-same q).1 e;
  tried = λ prog h l q s. record {
    values = λ i x y e z. elim (dec_lt i t.at) [
      | yes p ↦
          let k = widens-known t.known u.known mid new b.widens (mid-same q).1 in
          let c = a.tried prog h l (mid-same q).0 (omega (arith, s, b.widens.facts.more, b.widens.facts.sized)) in
          some-kept mid t.known.count new u.known.count r (get_or cells (i + 1) 0) b.widens.facts (c.values i x p e (rw (← k) at z))
      | no p ↦ (b.tried prog h l (mid-same q).1 s).values i (omega arith) y e z
    ];
  };
}
  where
    mid-same : Same j u.known → Same j t.known × Same t.known u.known
    mid-same q = same_mid j t.known u.known old mid new a.widens b.widens q

stands_at : (l m k : List ℕ) (v : ℕ) → l ≡ m → Stands m k v → Stands l k v
stands_at l m k v e s = rw e s

-- all values tried: nothing is left of the rule
pub looks-done : (cells starts : List ℕ) (r : ℕ) (j : Learnt) (old : List ℕ) (a from : ℕ) (t : Look) (new : List ℕ) → a ≡ get_or starts r 0 → drop from cells ≡ drop a (drop 0 cells) → t.end ≤ t.at
    → Looks cells starts r j old from t new → LookedTold cells starts r j old t.known new
unfolding known_in
looks-done cells starts r j old a from t new ea ed h x = record {
  widens = x.widens;
  holds = x.holds;
  closed = λ prog p l q b. record {
    passing = x.passing prog p l q;
    giving = λ v e.
        let m = values_in (known_in t.known.passed new t.known.count) v (body_of prog r) e in
        let s = stands_at (drop from cells) (drop (get_or starts r 0) cells) (l.tail r) v (ed ∙ ap (λ (n : ℕ). drop n cells) ea) (stands v (l.lies r p) m) in
        let i = from + s.at in
        let mark : get_or cells i 0 ≡ 10 = sym (get_or-drop from cells s.at 0) ∙ s.mark in
        let its : get_or cells (i + 1) 0 ≡ v = ap (λ (n : ℕ). get_or cells n 0) (omega arith) ∙ (sym (get_or-drop from cells (s.at + 1) 0) ∙ s.its) in
        let y = (x.tried prog p l q b).values i (omega arith) (omega (arith, s.before, length-drop from cells, ap length (x.ends prog p l), length-drop t.end cells, x.inside)) mark (rw its e) in
        rw its at y;
  };
}

-- Sweeps
pub sweep-start : (cells starts : List ℕ) (n : ℕ) (k : Learnt) (facts : List ℕ) → 2 * k.count ≤ length facts → SweepTold cells starts n n k facts k facts
sweep-start cells starts n k facts h = record {
  widens = widens-self k facts h;
  holds = λ prog e l t. t;
  closed = λ prog e l q s r b c. absurd (omega arith);
}

pub sweep-next : (cells starts : List ℕ) (n r i : ℕ) (j : Learnt) (old : List ℕ) (k : Learnt) (mid : List ℕ) (u : Learnt) (new : List ℕ) → r ≡ suc i → r ≤ n
    → SweepTold cells starts n r j old k mid → LookedTold cells starts i k mid u new → SweepTold cells starts n i j old u new
sweep-next cells starts n r i j old k mid u new d h a b = record {
  widens = widens-trans j k u old mid new a.widens b.widens;
  holds = λ prog e l t. b.holds prog (omega (arith, e)) l (a.holds prog e l t);
  closed = λ prog e l q s m p c.
      let w = same_mid j k u old mid new a.widens b.widens q in
      elim (dec_lt i m) [
        | yes x ↦
            let z = a.closed prog e l w.0 (omega (arith, s, b.widens.facts.more, b.widens.facts.sized)) m (omega arith) c in
            rw (widens-known k u mid new b.widens w.1) at z
        | no x ↦ let y : m ≡ i = omega arith in rw y (b.closed prog (omega (arith, e)) l w.1 s)
      ];
}

-- a look at one rule, as a part of a sweep that closes nothing
pub look-swept : (cells starts : List ℕ) (n r : ℕ) (j : Learnt) (old : List ℕ) (k : Learnt) (new : List ℕ) → r < n → LookedTold cells starts r j old k new → SweepTold cells starts n n j old k new
look-swept cells starts n r j old k new h b = record {
  widens = b.widens;
  holds = λ prog e l t. b.holds prog (omega (arith, e, h)) l t;
  closed = λ prog e l q s m p c. absurd (omega arith);
}

-- and then a sweep
pub sweep-after : (cells starts : List ℕ) (n i : ℕ) (j : Learnt) (old : List ℕ) (k : Learnt) (mid : List ℕ) (u : Learnt) (new : List ℕ)
    → SweepTold cells starts n n j old k mid → SweepTold cells starts n i k mid u new → SweepTold cells starts n i j old u new
sweep-after cells starts n i j old k mid u new a b = record {
  widens = widens-trans j k u old mid new a.widens b.widens;
  holds = λ prog e l t. b.holds prog e l (a.holds prog e l t);
  closed = λ prog e l q s m p c. b.closed prog e l (same_mid j k u old mid new a.widens b.widens q).1 s m p c;
}

-- Sweeps until one brings nothing
pub record Settling (cells starts : List ℕ) (n : ℕ) (more : Bool) (k : Learnt) (facts : List ℕ) : Type 0 where
  pub room : 2 * k.count ≤ length facts
  pub apart : Apart facts k.count
  pub holds : (prog : List Rule) → length prog ≡ n → Laid cells starts prog → True prog k.passed facts k.count
  pub closed : more ≡ false → (prog : List Rule) → length prog ≡ n → Laid cells starts prog → 2 * k.count + 1 < length facts → (r : ℕ) → r < n → ClosedAt prog (known_in k.passed facts k.count) r

pub settle-start : (cells starts : List ℕ) (n : ℕ) (facts : List ℕ) → Settling cells starts n true (record { passed = record { lo = 0; hi = 0 }; count = 0 }) facts
settle-start cells starts n facts = record {
  room = omega arith;
  apart = record { differ = λ i j l b. absurd (omega arith) };
  holds = λ prog e l. record { passes = λ r d. never (sym (member-none r) ∙ d); returns = λ i b. absurd (omega arith) };
  closed = λ e. never (sym e);
}

pub settle-next : (cells starts : List ℕ) (n : ℕ) (more b : Bool) (k : Learnt) (mid : List ℕ) (j : Learnt) (new : List ℕ) → b ≡ alike j k → Settling cells starts n more k mid → SweepTold cells starts n 0 k mid j new → Settling cells starts n (not b) j new
settle-next cells starts n more b k mid j new e s t = record {
  room = t.widens.facts.room;
  apart = t.widens.facts.apart s.apart;
  holds = λ prog d l. t.holds prog d l (s.holds prog d l);
  closed = λ d prog q l h r. t.closed prog q l (alike_same k j (sym e ∙ not-false b d)) h r (omega arith);
}

pub settle-done : (cells starts : List ℕ) (n : ℕ) (more : Bool) (k : Learnt) (facts : List ℕ) → more ≡ false → Settling cells starts n more k facts → LearntTold cells starts n k facts
settle-done cells starts n more k facts e s = record { room = s.room; apart = s.apart; holds = s.holds; closed = s.closed e }

-- how much there is left to find
abbrev pub unsettled : ℕ → Learnt → Bool → ℕ
unsettled c k more = (outside 128 (member k.passed) + (c - k.count)) + cond more 1 0

pub settle-less : (j k : Learnt) (old new : List ℕ) (c : ℕ) (b : Bool) → Widens k old j new → j.count ≤ c → b ≡ alike j k → unsettled c j (not b) < unsettled c k true
settle-less j k old new c true w h e = omega (arith, widens-less k j old new c w)
settle-less j k old new c false w h e = omega (arith, widens-falls k j old new c w h (sym e))
