-- Which rules a message breaks depends on only three facts about its interface: the names of its
-- messages, how many requests it has, and its version.
use Rattle.std.proofs.Common.{◌≡◌, ℕ, List, length, map, ap, ◌∙◌, arith}
use Rattle.std.specs.Prelude.{option_map}
use Rattle.std.proofs.lemmas.Option.{slice_get-map}
use Rattle.wl_sigs.specs.Side.{Side}
use Rattle.wl_sigs.specs.Tables.{MessageSignature, Interface, messages_of}
use Rattle.wl_sigs.specs.FirstBroken.{MessageBreaks, message_misnamed, message_named_again}
use Rattle.wl_sigs.specs.FirstBroken.{message_beyond, too_many_arguments, event_makes}
use Rattle.wl_sigs.specs.FirstBroken.{request_makes_two, new_without_interface, object_of_any}
use Rattle.wl_sigs.specs.FirstBroken.{event_destroys, object_of_ended, since_below_one}
use Rattle.wl_sigs.specs.FirstBroken.{since_above_version, interface_missing}
use Rattle.wl_sigs.specs.FirstBroken.{request_has_server_object, event_has_two_server_objects}
use Rattle.wl_sigs.specs.FirstBroken.{server_object_of_ended, server_object_of_fixed}
use Rattle.wl_sigs.proofs.JoinedLookup.{mapped_at}

pub like_interface : (all : List Interface) (i j : Interface) (side : Side) (o : ℕ) (m : MessageSignature) (rule : ℕ)
    → map (λ n. n.name) (messages_of side i) ≡ map (λ n. n.name) (messages_of side j)
    → length i.requests ≡ length j.requests → i.version ≡ j.version
    → MessageBreaks all i side o m rule → MessageBreaks all j side o m rule
like_interface all i j side o m rule names many version (message_misnamed is never) = message_misnamed is never
like_interface all i j side o m rule names many version (message_named_again earlier n is lt found same) =
    let witness = mapped_at (λ (n : MessageSignature). n.name) (messages_of side j) earlier n.name
    (rw (← names) (slice_get-map (λ (n : MessageSignature). n.name) (messages_of side i) earlier
    ∙ ap (option_map (λ (n : MessageSignature). n.name)) found)) in
    message_named_again earlier witness.0 is lt witness.1 (witness.2 ∙ same)
like_interface all i j side o m rule names many version (message_beyond is le) = message_beyond is le
like_interface all i j side o m rule names many version (too_many_arguments is lt) = too_many_arguments is lt
like_interface all i j side o m rule names many version (event_makes is event lt) = event_makes is event lt
like_interface all i j side o m rule names many version (request_makes_two is request lt) =
    request_makes_two is request lt
like_interface all i j side o m rule names many version (new_without_interface is there) =
    new_without_interface is there
like_interface all i j side o m rule names many version (object_of_any null is request there) =
    object_of_any null is request there
like_interface all i j side o m rule names many version (event_destroys is event destroys lt) =
    event_destroys is event destroys (omega (arith, many, lt))
like_interface all i j side o m rule names many version (object_of_ended null iface k is request there found ends) =
    object_of_ended null iface k is request there found ends
like_interface all i j side o m rule names many version (since_below_one is lt) = since_below_one is lt
like_interface all i j side o m rule names many version (since_above_version is lt) =
    since_above_version is (omega (arith, version, lt))
like_interface all i j side o m rule names many version (interface_missing kind iface is there named le) =
    interface_missing kind iface is there named le
like_interface all i j side o m rule names many version (request_has_server_object is request lt) =
    request_has_server_object is request lt
like_interface all i j side o m rule names many version (event_has_two_server_objects is event lt) =
    event_has_two_server_objects is event lt
like_interface all i j side o m rule names many version (server_object_of_ended iface k is there found ends) =
    server_object_of_ended iface k is there found ends
like_interface all i j side o m rule names many version (server_object_of_fixed iface k is there found fixed) =
    server_object_of_fixed iface k is there found fixed
