-- The rules that a line keeps if the tests find none that it breaks.
use Rattle.std.proofs.Common.{◌≡◌, ℕ, ◌+◌, true, false, List, map, refl, Some, None, Option, Bool}
use Rattle.std.proofs.Common.{nat_le, nat_lt, length, slice_get, not, cond, ◌&&◌, arith}
use Rattle.std.specs.List.{list_all, count_by}
use Rattle.std.proofs.lemmas.Bool.{and_parts}
use Rattle.wl_sigs.specs.Side.{Side}
use Rattle.wl_sigs.specs.Side.TheVariants.{Request, Event}
use Rattle.wl_sigs.specs.Rules.{is_name}
use Rattle.wl_text.specs.Text.{WrittenMessage, WrittenInterface}
use Rattle.wl_sigs.specs.Joined.{first_place}
use Rattle.wl_sigs.specs.Broken.{is_first, makes_object, makes_unnamed, names_missing, most_new}
use Rattle.wl_sigs.specs.Broken.{names_objects, is_race_free, interface_rule, message_rule}
use Rattle.wl_sigs.specs.Broken.{broken_at, side_broken, interface_broken, makes_server_object}
use Rattle.wl_sigs.specs.Broken.{most_by_server, makes_forbidden}
use Rattle.wl_sigs.specs.FirstBroken.{written_of}
use Rattle.wl_rules.proofs.FirstBrokenLine.{earlier_none, each_message_keeps}

-- a test passes if neither it nor any test after it finds a broken rule
unless : (t : Bool) (r : ℕ) (rest : Option ℕ) → cond (not t) (Some r) rest ≡ None → (t ≡ true) × (rest ≡ None)
unless true r rest e = (refl, e)
unless false r rest e = cc e

unbroken : (line : ℕ) (o : Option ℕ) → broken_at line o ≡ None → o ≡ None
unbroken line None e = refl
unbroken line (Some r) e = cc e

pub record InterfaceKeeps (place : List ℕ → Option ℕ) (here : ℕ) (i : WrittenInterface) : Type 0 where
  pub named : is_name i.name ≡ true
  pub first : is_first place i.name here ≡ true
  pub small : nat_lt here 1024 ≡ true
  pub version : nat_le 1 i.version ≡ true

interface_kept : (place : List ℕ → Option ℕ) (here : ℕ) (i : WrittenInterface) → interface_rule place here i ≡ None
    → InterfaceKeeps place here i
interface_kept place here i none =
    let a = unless (is_name i.name && is_first place i.name here) 1 _ none in
    let b = unless (nat_lt here 1024) 3 _ a.1 in
    let d = unless (nat_le 1 i.version) 8 None b.1 in
    let names = and_parts (is_name i.name) (is_first place i.name here) a.0 in
    record { named = names.0; first = names.1; small = b.0; version = d.0 }

pub record MessageKeeps (place : List ℕ → Option ℕ) (ended : List Bool) (i : WrittenInterface) (side : Side)
    (first : List ℕ → Option ℕ) (opcode : ℕ) (m : WrittenMessage) : Type 0 where
  pub named : is_name m.name ≡ true
  pub first_named : is_first first m.name opcode ≡ true
  pub few : nat_lt opcode 256 ≡ true
  pub short : nat_le (length m.kinds) 20 ≡ true
  pub few_new : nat_le (count_by makes_object m.kinds) (most_new side) ≡ true
  pub none_unnamed : list_all (λ k. not (makes_unnamed k)) m.kinds ≡ true
  pub none_any : names_objects side m ≡ true
  pub race_free : is_race_free place ended i side m ≡ true
  pub since : nat_le 1 m.since ≡ true
  pub to_version : nat_le m.since i.version ≡ true
  pub none_missing : list_all (λ k. not (names_missing place k)) m.kinds ≡ true
  pub few_by_server : nat_le (count_by makes_server_object m.kinds) (most_by_server side) ≡ true
  pub none_forbidden : list_all (λ k. not (makes_forbidden place ended k)) m.kinds ≡ true

message_kept : (place : List ℕ → Option ℕ) (ended : List Bool) (i : WrittenInterface) (side : Side)
    (first : List ℕ → Option ℕ) (opcode : ℕ) (m : WrittenMessage)
    → message_rule place ended i side first opcode m ≡ None → MessageKeeps place ended i side first opcode m
message_kept place ended i side first opcode m none =
    let r1 = unless (is_name m.name && is_first first m.name opcode) 1 _ none in
    let r3 = unless (nat_lt opcode 256 && nat_le (length m.kinds) 20) 3 _ r1.1 in
    let r4 = unless (nat_le (count_by makes_object m.kinds) (most_new side)) 4 _ r3.1 in
    let r5 = unless (list_all (λ k. not (makes_unnamed k)) m.kinds) 5 _ r4.1 in
    let r6 = unless (names_objects side m) 6 _ r5.1 in
    let r7 = unless (is_race_free place ended i side m) 7 _ r6.1 in
    let r8 = unless (nat_le 1 m.since && nat_le m.since i.version) 8 _ r7.1 in
    let r9 = unless (list_all (λ k. not (names_missing place k)) m.kinds) 9 _ r8.1 in
    let r11 = unless (nat_le (count_by makes_server_object m.kinds) (most_by_server side)
    && list_all (λ k. not (makes_forbidden place ended k)) m.kinds) 11 None r9.1 in
    let names = and_parts (is_name m.name) (is_first first m.name opcode) r1.0 in
    let sizes = and_parts (nat_lt opcode 256) (nat_le (length m.kinds) 20) r3.0 in
    let sinces = and_parts (nat_le 1 m.since) (nat_le m.since i.version) r8.0 in
    let by_server = and_parts (nat_le (count_by makes_server_object m.kinds) (most_by_server side))
    (list_all (λ k. not (makes_forbidden place ended k)) m.kinds) r11.0 in
    record {
      named = names.0;
      first_named = names.1;
      few = sizes.0;
      short = sizes.1;
      few_new = r4.0;
      none_unnamed = r5.0;
      none_any = r6.0;
      race_free = r7.0;
      since = sinces.0;
      to_version = sinces.1;
      none_missing = r9.0;
      few_by_server = by_server.0;
      none_forbidden = by_server.1;
    }

-- an interface none of whose lines breaks a rule
pub record Keeps (place : List ℕ → Option ℕ) (ended : List Bool) (here : ℕ) (i : WrittenInterface) : Type 0 where
  pub interface : InterfaceKeeps place here i
  pub messages : (side : Side) (o : ℕ) (m : WrittenMessage) → slice_get (written_of side i) o ≡ Some m
      → MessageKeeps place ended i side (first_place (map (λ n. n.name) (written_of side i))) o m

side_kept : (place : List ℕ → Option ℕ) (ended : List Bool) (i : WrittenInterface) (side : Side)
    (messages : List WrittenMessage) → side_broken place ended i side messages ≡ None
    → (o : ℕ) (m : WrittenMessage) → slice_get messages o ≡ Some m
    → MessageKeeps place ended i side (first_place (map (λ n. n.name) messages)) o m
side_kept place ended i side messages none o m at =
    let first = first_place (map (λ n. n.name) messages) in
    let rule = each_message_keeps (message_rule place ended i side first) 0 messages none o m at in
    let zero_on : 0 + o ≡ o = omega arith in
    message_kept place ended i side first o m (rw zero_on at rule)

pub kept : (place : List ℕ → Option ℕ) (ended : List Bool) (here : ℕ) (i : WrittenInterface)
    → interface_broken place ended here i ≡ None → Keeps place ended here i
kept place ended here i none =
    let own = earlier_none _ _ none in
    let sides = earlier_none _ _ own.1 in
    record {
      interface = interface_kept place here i (unbroken i.line _ own.0);
      messages = λ side. by_side side sides.0 sides.1;
    }
  where
    by_side : (side : Side) → side_broken place ended i Request i.requests ≡ None
        → side_broken place ended i Event i.events ≡ None
        → (o : ℕ) (m : WrittenMessage) → slice_get (written_of side i) o ≡ Some m
        → MessageKeeps place ended i side (first_place (map (λ n. n.name) (written_of side i))) o m
    by_side Request requests events = side_kept place ended i Request i.requests requests
    by_side Event requests events = side_kept place ended i Event i.events events
