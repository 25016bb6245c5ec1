-- A method that requires what its trait requires, and ensures that and more.
use seplogic.Ra.Ura.{Ura}
use base.Logic.{SProp, ent, sep, wand, all, emp, all_i, ex_i, wand_i, via, mono_r, snd∗}
use borrow.Fn.Refines.{Gives, Turns, pull_last}

pub says_more : {M : Type 1} (𝓤 : Ura M) (P : SProp 𝓤) (G : Type 0) (Q : G → SProp 𝓤) (R X : Type 0) (D : G → R → X → SProp 𝓤) (D' : R → X → SProp 𝓤)
    → (g : G) → ent 𝓤 P (Q g) → ((r : R) (e : X) → ent 𝓤 (D g r e) (D' r e)) → Gives 𝓤 P G Q (λ h. Turns 𝓤 R X (D h) D')
says_more 𝓤 P G Q R X D D' g asks says =
    let kept : ent 𝓤 (emp 𝓤) (Turns 𝓤 R X (D g) D') = all_i 𝓤 (λ (r : R). all 𝓤 (λ (e : X). wand 𝓤 (D g r e) (D' r e))) (λ r. all_i 𝓤 (λ (e : X). wand 𝓤 (D g r e) (D' r e)) (λ e.
    wand_i 𝓤 (emp 𝓤) (D g r e) (D' r e) (via 𝓤 (D g r e) (snd∗ 𝓤 (emp 𝓤) (D g r e)) (says r e)))) in
    via 𝓤 (Q g) asks (via 𝓤 (sep 𝓤 (Q g) (emp 𝓤)) (pull_last 𝓤 (Q g)) (via 𝓤 (sep 𝓤 (Q g) (Turns 𝓤 R X (D g) D')) (mono_r 𝓤 (Q g) kept)
    (ex_i 𝓤 (λ (h : G). sep 𝓤 (Q h) (Turns 𝓤 R X (D h) D')) g)))
