-- `linking::first_fault` meets its contract.
use Prim.Native.Nat.{min}
use Rattle.std.proofs.Math.Nat.{min_comm}
use mathlib.Core.Path.{refl, ap, ◌∙◌}
use Rattle.linking.proofs.Checking.{wrong-number, right-number, typed-first, one-unlike, one-twice, one-past, none-past}
use Rattle.linking.proofs.first_fault.Goals as goal

pub returns-then-is_off : goal.returns-then-is_off
returns-then-is_off c = λ d n h hs e. wrong-number _ d h.objects (c.count_objects-count.ensures d n h) c.is_off.ensures c.if-is_off.true refl refl refl refl

pub returns-in-Some : goal.returns-in-Some
returns-in-Some c = λ d n h hs e. typed-first _ d h.objects (right-number h.objects (c.count_objects-count.ensures d n h) c.is_off.ensures c.if-is_off.false) _ (c.first_typed.ensures d n h) c.in-Some.is (record { number = c.fault_of.ensures.0; text = c.fault_of.ensures.1; start = c.fault_of.ensures.2; len = c.fault_of.ensures.3 })

pub returns-in-Some-find_unlike : goal.returns-in-Some-find_unlike
returns-in-Some-find_unlike c = λ d n h hs e. one-unlike _ d h.objects (right-number h.objects (c.count_objects-count.ensures d n h) c.is_off.ensures c.if-is_off.false) _ (c.first_typed.ensures d n h) c.in_default.is _ (c.find_unlike.ensures d n h hs) c.in-Some-find_unlike.is (record { number = c.fault_of-in-Some-find_unlike.ensures.0; text = c.fault_of-in-Some-find_unlike.ensures.1; start = c.fault_of-in-Some-find_unlike.ensures.2; len = c.fault_of-in-Some-find_unlike.ensures.3 })

pub returns-in-Some-find_twice : goal.returns-in-Some-find_twice
returns-in-Some-find_twice c = λ d n h hs e. one-twice _ d h.objects (right-number h.objects (c.count_objects-count.ensures d n h) c.is_off.ensures c.if-is_off.false) _ (c.first_typed.ensures d n h) c.in_default.is _ (c.find_unlike.ensures d n h hs) c.in_default-find_unlike.is _ (c.find_twice.ensures d n h) c.in-Some-find_twice.is (record { number = c.fault_of-in-Some-find_twice.ensures.0; text = c.fault_of-in-Some-find_twice.ensures.1; start = c.fault_of-in-Some-find_twice.ensures.2; len = c.fault_of-in-Some-find_twice.ensures.3 })

pub returns-in-Some-past_limit : goal.returns-in-Some-past_limit
returns-in-Some-past_limit c = λ d n h hs e. one-past _ d h.objects (right-number h.objects (c.count_objects-count.ensures d n h) c.is_off.ensures c.if-is_off.false) _ (c.first_typed.ensures d n h) c.in_default.is _ (c.find_unlike.ensures d n h hs) c.in_default-find_unlike.is _ (c.find_twice.ensures d n h) c.in_default-find_twice.is _ (c.past_limit.ensures d n h) (c.min.ensures ∙ min_comm _ 128 ∙ ap (min 128) e) c.in-Some-past_limit.is (record { number = c.fault_of-in-Some-past_limit.ensures.0; text = c.fault_of-in-Some-past_limit.ensures.1; start = c.fault_of-in-Some-past_limit.ensures.2; len = c.fault_of-in-Some-past_limit.ensures.3 })

pub returns : goal.returns
returns c = λ d n h hs e. none-past _ d h.objects (right-number h.objects (c.count_objects-count.ensures d n h) c.is_off.ensures c.if-is_off.false) _ (c.first_typed.ensures d n h) c.in_default.is _ (c.find_unlike.ensures d n h hs) c.in_default-find_unlike.is _ (c.find_twice.ensures d n h) c.in_default-find_twice.is _ (c.past_limit.ensures d n h) (c.min.ensures ∙ min_comm _ 128 ∙ ap (min 128) e) c.in_default-past_limit.is
