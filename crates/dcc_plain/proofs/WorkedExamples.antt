-- The plain words of packets, computed on the definitions.
use Rattle.std.proofs.Common.{List, ℕ, ◌≡◌, [], ◌∷◌, Some, None, true, false, codes, refl, arith}
use Rattle.std.specs.Fmt.{digits}
use Rattle.dcc_packet.specs.declared.address.Address.{Address}
use Rattle.dcc_packet.specs.declared.address.Address.TheVariants.{Short, Broadcast, Long}
use Rattle.dcc_packet.specs.declared.cv.CvNumber.{CvNumber}
use Rattle.dcc_packet.specs.declared.functions.Group.TheVariants.{F0, F5, F13, F61}
use Rattle.dcc_packet.specs.declared.instruction.What.{What}
use Rattle.dcc_packet.specs.declared.instruction.What.TheVariants.{Functions, CvBitVerify, Reset, Speed28, Speed128}
use Rattle.dcc_packet.specs.declared.packet.OtherFrame.{OtherFrame}
use Rattle.dcc_packet.specs.declared.packet.Packet.TheVariants.{Idle, Loco, Accessory, Other, Signal}
use Rattle.dcc_service.specs.declared.packet.ServicePacket.TheVariants.{Write}
use Rattle.dcc_service.specs.Table.{service_spelling}
use Rattle.dcc_plain.specs.PlainText.{plain_words}

abbrev short_3 : Address
short_3 = Short (record { number = 3; in_range = (omega arith, omega arith) })

abbrev long_1000 : Address
long_1000 = Long (record { number = 1000; in_range = omega arith })

abbrev words_of : Address → What → List ℕ
words_of to what = plain_words (Loco to what) None None

idle : plain_words Idle None None ≡ codes "idle"
idle = refl

reset_of_all : words_of Broadcast Reset ≡ codes "all locomotives: stop, everything off"
reset_of_all = refl

step_17 : words_of short_3 (Speed28 true (record { bits = 20; in_range = omega arith }))
    ≡ codes "locomotive 3: step 17 of 28, forward"
unfolding digits
step_17 = refl

emergency_stop : words_of long_1000 (Speed128 false (record { bits = 1; in_range = omega arith }))
    ≡ codes "locomotive 1000 (long): emergency stop, reverse"
unfolding digits
emergency_stop = refl

stop_of_all : words_of Broadcast (Speed28 true (record { bits = 0; in_range = omega arith }))
    ≡ codes "all locomotives: stop, forward"
stop_of_all = refl

-- the packet of a station's stop, which sets no direction
emergency_stop_of_all : words_of Broadcast (Speed28 true (record { bits = 3; in_range = omega arith }))
    ≡ codes "all locomotives: emergency stop"
emergency_stop_of_all = refl

no_step_of_all : words_of Broadcast (Speed28 true (record { bits = 9; in_range = omega arith }))
    ≡ codes "all locomotives: nothing to do"
no_step_of_all = refl

-- F0 is the highest bit of its group, and the first name
f0_and_f4 : words_of short_3 (Functions (record { group = F0; bits = 24; in_range = omega arith }))
    ≡ codes "locomotive 3: F0, F4 on, the rest of F0 to F4 off"
unfolding digits
f0_and_f4 = refl

no_function : words_of short_3 (Functions (record { group = F5; bits = 0; in_range = omega arith }))
    ≡ codes "locomotive 3: F5 to F8 off"
unfolding digits
no_function = refl

last_functions : words_of short_3 (Functions (record { group = F61; bits = 192; in_range = omega arith }))
    ≡ codes "locomotive 3: F67, F68 on, the rest of F61 to F68 off"
unfolding digits
last_functions = refl

-- a group whose functions are all on
all_of_f0 : words_of short_3 (Functions (record { group = F0; bits = 31; in_range = omega arith }))
    ≡ codes "locomotive 3: F0 to F4 on"
unfolding digits
all_of_f0 = refl

all_of_f13 : words_of short_3 (Functions (record { group = F13; bits = 255; in_range = omega arith }))
    ≡ codes "locomotive 3: F13 to F20 on"
unfolding digits
all_of_f13 = refl

abbrev cv_29 : CvNumber
cv_29 = record { number = 29; in_range = (omega arith, omega arith) }

question_about_a_bit : words_of short_3 (CvBitVerify cv_29 (record { place = 5; in_range = omega arith }) false)
    ≡ codes "locomotive 3: is bit 5 of CV29 0?"
unfolding digits
question_about_a_bit = refl

turnout_158 : plain_words (Accessory (record { number = 40; in_range = omega arith })
    (record { number = 2; in_range = omega arith }) true) None None
    ≡ codes "board 40, output 2 on, turnout 158"
unfolding digits
turnout_158 = refl

all_signals : plain_words (Signal (record { number = 2047; in_range = omega arith }) 0) None None
    ≡ codes "all signals: aspect 0"
unfolding digits
all_signals = refl

service_frame : service_spelling (Write cv_29 10) ≡ 0x7C ∷ 0x1C ∷ 0x0A ∷ 0x6A ∷ []
service_frame = refl

service_write : (other : OtherFrame) → plain_words (Other other) (Some (Write cv_29 10)) None
    ≡ codes "on a programming track: CV29 := 10"
unfolding digits
service_write other = refl
