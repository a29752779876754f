mod OneMore
mod GivenLaws
