-- The promises of specs/Promises.antt, each under its name. Audio is equal under two keys exactly when T agrees in the lanes that it shows, and T does exactly
-- when the keys agree in the bits that these show. Assumes nothing.
use mathlib.Core.Logic.Iff
use lib.ListN.{length}
use lib.Dec.{eqb}
use lib.Bits.{bit_and}
use borrow.Author.Tests.{eq-eqb, eqb-true, not-false}
use Rattle.key.proofs.Promises.{EvenLanesTellTheirBits}
use Rattle.mask.specs.Positions.{lanes_shown}
use Rattle.mask.proofs.Promises.{AudioEqualExactlyWhenLanesAgree}
use Rattle.clip.specs.Clips.{bits_shown, clip_tells}
use Rattle.clip.specs.Promises as promised

pub NotToldApartExactlyWhenBitsAgree : promised.NotToldApartExactlyWhenBitsAgree
unfolding clip_tells
NotToldApartExactlyWhenBitsAgree n key key' =
    let one = bit_and key (bits_shown n) in
    let other = bit_and key' (bits_shown n) in
    (λ f. eqb-true one other (not-false (eqb one other) f), λ e. rw (eq-eqb one other e))

pub NotToldApartExactlyWhenEqual : promised.NotToldApartExactlyWhenEqual
NotToldApartExactlyWhenEqual key key' clip =
    Iff.trans (NotToldApartExactlyWhenBitsAgree (length clip) key key')
    (Iff.trans (Iff.symm (EvenLanesTellTheirBits key key' (lanes_shown (length clip)))) (Iff.symm (AudioEqualExactlyWhenLanesAgree key key' clip)))
