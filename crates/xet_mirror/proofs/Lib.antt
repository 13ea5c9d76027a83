mod FileParts
mod Finals
mod Listed
mod MirrorLaws
mod Mirrorings
mod Stopped
