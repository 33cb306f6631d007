use Rattle.wl_objects.specs.Writing.{int_given, uint_given, fixed_given}
use Rattle.wl_objects.proofs.calling.is_number.Goals as goal

pub returns-in-Int-Int-clause-given : goal.returns-in-Int-Int-clause-given
returns-in-Int-Int-clause-given c = λ _. rw (c.in-Int-Int.is-0, c.in-Int-Int.is-1) int_given

pub returns-in-Uint-Uint-clause-given : goal.returns-in-Uint-Uint-clause-given
returns-in-Uint-Uint-clause-given c = λ _. rw (c.in-Uint-Uint.is-0, c.in-Uint-Uint.is-1) uint_given

pub returns-in-Fixed-Fixed-clause-given : goal.returns-in-Fixed-Fixed-clause-given
returns-in-Fixed-Fixed-clause-given c = λ _. rw (c.in-Fixed-Fixed.is-0, c.in-Fixed-Fixed.is-1) fixed_given
