-- A request that the checker accepts, and the message that the checker reads it as.
use Rattle.std.specs.Prelude.{◌≡◌, ℕ, suc, ◌<◌, ◌≤◌, nat_eq, if◌then◌else◌, List, [], ◌∷◌, length}
use Rattle.std.specs.Prelude.{Option, Some, None, option_map}
use Rattle.std.specs.List.{All}
use Rattle.std.specs.declared.result.Result.TheVariants.{Ok}
use Rattle.wl_wire.specs.declared.kind.Kind.{Kind}
use Rattle.wl_wire.specs.Argument.{Argument, reshaped}
use Rattle.wl_sigs.specs.Tables.{Interface}
use Rattle.wl_message.specs.Cut.{greatest_limit}
use Rattle.wl_object_map.specs.declared.object.Entry.{Entry}
use Rattle.wl_object_map.specs.declared.object.Maker.{Maker}
use Rattle.wl_object_map.specs.declared.object.Maker.TheVariants.{Client}
use Rattle.wl_object_map.specs.Objects.{maker_of}
use Rattle.wl_object_map.specs.View.{max_births}
use Rattle.wl_objects.specs.Messages.{NewObject, made_by}
use Rattle.wl_recording.specs.declared.piece.Direction.TheVariants.{ToServer}
use Rattle.wl_check.specs.Changes.{Call}
use Rattle.wl_check.specs.Merged.{span, framed}
use Rattle.wl_check.specs.Places.{KnownAtPlace as Knows}
use Rattle.wl_check.specs.Rules.{if_open, judged}
use Rattle.wl_check.specs.Session.{Judged}
use Rattle.theory_connection.specs.Meant.{client_birth, Known, Message, Arg, ended_by}
use Rattle.theory_connection.specs.World.{display_born}
use Rattle.theory_recording.specs.Follows.{birth_places, knowledge}

-- how many numbers of a list come before the first that is this one
unfoldable pub index_of : List ℕ → ℕ → ℕ
index_of [] number = 0
index_of (first ∷ more) number = if nat_eq first number then 0 else suc (index_of more number)

-- The object that a checker has with this id. The checker knows the place of the message that made
-- it; among the places of its maker's messages that make an object, that place's index is the
-- number of its birth.
abbrev pub known_by_place : (Maker → List ℕ) → ℕ → Entry → Known
known_by_place birth_places id entry = record {
  id = id;
  born = record {
    birth = record {
      maker = maker_of id;
      number = index_of (birth_places (maker_of id)) entry.birth;
    };
    iface = entry.iface;
    version = entry.version;
  };
}

-- the open object that an argument's id names; none for 0
abbrev pub named_open : (Maker → List ℕ) → Knows → ℕ → Option Known
named_open birth_places k id =
    if nat_eq id 0 then None
    else option_map (known_by_place birth_places id) (if_open (k.object id))

-- A new object of the client: its interface and version are as the message says, and its birth is
-- the client's next. (In an accepted request the message says both.)
abbrev pub new_known : (Maker → List ℕ) → Option NewObject → ℕ → Known
new_known birth_places None id = record { id = id; born = display_born }
new_known birth_places (Some new) id = record {
  id = id;
  born = record {
    birth = client_birth (length (birth_places Client));
    iface = new.iface;
    version = new.version;
  };
}

-- An argument as it is meant. A checker sees no descriptors: each token is 0.
abbrev pub asked_arg : List Interface → (Maker → List ℕ) → Knows → ℕ → Kind → Argument → Arg Known
asked_arg tables birth_places k version kind value =
    reshaped (named_open birth_places k)
    (new_known birth_places (made_by tables version kind value)) (λ _. 0) value

abbrev pub asked_args : List Interface → (Maker → List ℕ) → Knows → ℕ → List Kind → List Argument
    → List (Arg Known)
asked_args tables birth_places k version (kind ∷ ks) (value ∷ values) =
    asked_arg tables birth_places k version kind value
    ∷ asked_args tables birth_places k version ks values
asked_args tables birth_places k version _ _ = []

-- the message that a checker reads a request as, if it knows this and these are the places of
-- births
abbrev pub asked_message : List Interface → (Maker → List ℕ) → Knows → Call → Message Known
asked_message tables birth_places k call =
    let r = call.received in
    let target = known_by_place birth_places r.target.id r.entry in
    let args = asked_args tables birth_places k r.entry.version r.signature.kinds r.values in
    record {
      target = target;
      opcode = call.opcode;
      args = args;
      ends = ended_by r.signature.destroys target args;
    }

-- the message that a request is read as after these judged messages
abbrev pub asked_as : List Interface → List Judged → Call → Message Known
asked_as tables e call = asked_message tables (birth_places tables e) (knowledge tables e) call

-- The checker accepts the request at a place of the stream to the server, after these judged
-- messages. The stream consists of bytes, the size fits in a header, and the client has made fewer
-- objects than an end can count.
pub record IsAcceptedRequest (limit : ℕ) (tables : List Interface) (e : List Judged)
    (call : Call) : Type 0
  where
    pub stream : List ℕ
    pub bytes : All (λ b. b < 256) stream
    pub place : ℕ
    pub size : ℕ
    pub short : size ≤ greatest_limit
    pub tokens : ℕ
    pub is : judged limit tables (knowledge tables e) stream
        (framed ToServer tokens (span place size)) ≡ Ok call
    pub few : length (birth_places tables e Client) < max_births
