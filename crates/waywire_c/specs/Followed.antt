-- What C learns about the messages that an inspector follows, about objects, and about a verdict.
use Rattle.std.specs.Prelude.{◌≡◌, ◌⊎◌, ℕ, Bool, true, false, List, length, Option, Some, None}
use Rattle.wl_sigs.specs.Tables.{Interface}
use Rattle.wl_object_map.specs.declared.object.Entry.{Entry}
use Rattle.wl_object_map.specs.declared.object.State.{State}
use Rattle.wl_object_map.specs.declared.object.State.TheVariants.{Live, Zombie}
use Rattle.wl_objects.specs.Messages.{NewObject}
use Rattle.wl_recording.specs.declared.piece.Direction.{Direction}
use Rattle.wl_recording.specs.declared.piece.Direction.TheVariants.{ToServer, ToClient}
use Rattle.wl_check.specs.declared.following.Followed.{Followed}
use Rattle.wl_check.specs.declared.following.Follower.{Follower}
use Rattle.wl_check.specs.declared.verdict.Verdict.{Verdict}
use Rattle.wl_check.specs.declared.verdict.Verdict.TheVariants.{Lawful, Broken}
use Rattle.wl_check.specs.Following.{size_ahead, IsFollowed}
use Rattle.wl_check.specs.Session.{Session, IsVerdictOf}
use Rattle.waywire_c.specs.Inspecting.{IsTried}
use Rattle.waywire_c.specs.Statuses.{fault_place, fault_spelling, fault_status}
use Rattle.waywire_c.specs.declared.followed.CEntry.{CEntry}
use Rattle.waywire_c.specs.declared.followed.CFollowed.{CFollowed}
use Rattle.waywire_c.specs.declared.followed.CVerdict.{CVerdict}

-- ---- objects

abbrev pub is_state_ending : State → Bool
is_state_ending Live = false
is_state_ending Zombie = true

-- what is reported about an object, known or not
abbrev pub told_entry : Option Entry → CEntry
told_entry None =
    record { birth = 0; version = 0; interface = 65535; is_known = false; is_ending = false }
told_entry (Some entry) = record {
  birth = entry.birth;
  version = entry.version;
  interface = entry.iface.0;
  is_known = true;
  is_ending = is_state_ending entry.state;
}

-- the id of an object that a message makes, its interface and its version; 0 if it makes none
abbrev pub made_id : Option NewObject → ℕ
made_id None = 0
made_id (Some new) = new.id

abbrev pub made_interface : Option NewObject → ℕ
made_interface None = 65535
made_interface (Some new) = new.iface.0

abbrev pub made_version : Option NewObject → ℕ
made_version None = 0
made_version (Some new) = new.version

abbrev pub id_or_none : Option ℕ → ℕ
id_or_none None = 0
id_or_none (Some id) = id

-- ---- messages

-- What is reported about a message, except where its bytes lie.
pub record ToldFollowed : Type 0 where
  pub number : ℕ
  pub index : ℕ
  pub offset : ℕ
  pub length : ℕ
  pub descriptors : ℕ
  pub target : ℕ
  pub opcode : ℕ
  pub size : ℕ
  pub object : CEntry
  pub is_read : Bool
  pub made : ℕ
  pub made_interface : ℕ
  pub made_version : ℕ
  pub destroyed : ℕ
  pub deleted : ℕ

abbrev pub followed_by : CFollowed → ToldFollowed
followed_by c = record {
  number = c.number;
  index = c.index;
  offset = c.offset;
  length = c.length;
  descriptors = c.descriptors;
  target = c.target;
  opcode = c.opcode;
  size = c.size;
  object = c.object;
  is_read = c.is_read;
  made = c.made;
  made_interface = c.made_interface;
  made_version = c.made_version;
  destroyed = c.destroyed;
  deleted = c.deleted;
}

abbrev pub of_followed : Followed → ToldFollowed
of_followed m = record {
  number = m.number;
  index = m.index;
  offset = m.offset;
  length = length m.bytes.now;
  descriptors = m.changes.tokens;
  target = m.header.object;
  opcode = m.header.opcode;
  size = m.header.size;
  object = told_entry m.target;
  is_read = m.is_read;
  made = made_id m.changes.made;
  made_interface = made_interface m.changes.made;
  made_version = made_version m.changes.made;
  destroyed = id_or_none m.changes.destroyed;
  deleted = id_or_none m.changes.deleted;
}

-- a refusal; nothing is reported
pub record TellsNothing (wanted status : ℕ) (before after : ToldFollowed) : Type 0 where
  pub status_is : status ≡ wanted
  pub told_is : after ≡ before

-- The next message of a direction is reported.
pub record TellsFollowed {A : Type 0} (f : Follower A) (direction : Direction) (status : ℕ)
    (after : ToldFollowed) : Type 0 where
  pub message : Followed
  pub is : IsFollowed f direction message
  pub status_is : status ≡ 0
  pub told_is : after ≡ of_followed message

-- the next message of a direction, or that there is none
abbrev pub TellsNextFollowed : {A : Type 0} → Option Direction → Follower A → ℕ → ToldFollowed
    → ToldFollowed → Type 0
TellsNextFollowed None f status before after = TellsNothing 62 status before after
TellsNextFollowed (Some direction) f status before after =
    ((size_ahead f direction ≡ None) × TellsNothing 64 status before after)
    ⊎ TellsFollowed f direction status after

-- ---- calls that change

-- the status of a call that names a sender: a number that is no sender is a bad value
abbrev pub EndsFor : Option Direction → ℕ → Type 0
EndsFor None status = status ≡ 62
EndsFor (Some direction) status = IsTried status

-- ---- a verdict

abbrev pub no_verdict : CVerdict
no_verdict = record {
  requests = 0;
  events = 0;
  left_to_server = 0;
  left_to_client = 0;
  index = 0;
  offset = 0;
  place = 0;
  fault = 0;
  spelling = 0;
  sender = 0;
}

abbrev pub sender_of : Direction → ℕ
sender_of ToServer = 0
sender_of ToClient = 1

-- what is reported about a verdict
abbrev pub told_verdict : Verdict → CVerdict
told_verdict (Lawful requests events left_to_server left_to_client) = record no_verdict {
  requests = requests;
  events = events;
  left_to_server = left_to_server;
  left_to_client = left_to_client;
}
told_verdict (Broken direction index offset fault) = record no_verdict {
  index = index;
  offset = offset;
  place = fault_place fault;
  fault = fault_status fault;
  spelling = fault_spelling fault;
  sender = sender_of direction;
}

-- The verdict on a session is reported.
pub record TellsParts (tables : List Interface) (session : Session) (told : CVerdict) : Type 0
  where
    pub verdict : Verdict
    pub answers : IsVerdictOf tables session verdict
    pub told_is : told ≡ told_verdict verdict
